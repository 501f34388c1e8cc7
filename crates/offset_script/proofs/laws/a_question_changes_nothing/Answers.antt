use Rattle.offset_script.proofs.Asking.{question_law}
use Rattle.offset_script.proofs.laws.a_question_changes_nothing.Goals as goal

pub returns : goal.returns
returns c = question_law
