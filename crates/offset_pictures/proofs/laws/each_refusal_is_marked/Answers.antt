use Rattle.offset_pictures.proofs.Marked.{marks_law}
use Rattle.offset_pictures.proofs.laws.each_refusal_is_marked.Goals as goal

pub returns : goal.returns
returns c = marks_law
