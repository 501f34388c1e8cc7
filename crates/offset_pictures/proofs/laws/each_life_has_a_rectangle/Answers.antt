use Rattle.offset_pictures.proofs.Parted.{rectangles_law}
use Rattle.offset_pictures.proofs.laws.each_life_has_a_rectangle.Goals as goal

pub returns : goal.returns
returns c = rectangles_law
