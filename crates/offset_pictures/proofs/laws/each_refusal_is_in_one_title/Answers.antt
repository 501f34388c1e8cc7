use Rattle.offset_pictures.proofs.Told.{told_law}
use Rattle.offset_pictures.proofs.laws.each_refusal_is_in_one_title.Goals as goal

pub returns : goal.returns
returns c = told_law
