use Rattle.offset_pictures.proofs.Reasoned.{reasons_law}
use Rattle.offset_pictures.proofs.laws.each_refusal_has_a_reason.Goals as goal

pub returns : goal.returns
returns c = reasons_law
