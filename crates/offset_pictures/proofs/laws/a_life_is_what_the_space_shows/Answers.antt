use Rattle.offset_pictures.proofs.Whole.{seen_law}
use Rattle.offset_pictures.proofs.laws.a_life_is_what_the_space_shows.Goals as goal

pub returns : goal.returns
returns c = seen_law
