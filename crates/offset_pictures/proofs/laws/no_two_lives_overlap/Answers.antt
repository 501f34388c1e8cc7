use Rattle.offset_pictures.proofs.Apart.{apart_law}
use Rattle.offset_pictures.proofs.laws.no_two_lives_overlap.Goals as goal

pub returns : goal.returns
returns c = apart_law
