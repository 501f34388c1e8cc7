use Rattle.offset_pictures.proofs.Apart.{within_law}
use Rattle.offset_pictures.proofs.laws.a_life_is_within_the_space.Goals as goal

pub returns : goal.returns
returns c = within_law
