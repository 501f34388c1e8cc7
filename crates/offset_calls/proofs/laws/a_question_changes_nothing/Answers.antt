use Rattle.offset_calls.proofs.Histories.{question_law}
use Rattle.offset_calls.proofs.laws.a_question_changes_nothing.Goals as goal

pub returns : goal.returns
returns c = question_law
