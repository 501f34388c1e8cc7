use Rattle.offset_pictures.proofs.Placed.{rectangles_apart}
use Rattle.offset_pictures.proofs.laws.rectangles_never_overlap.Goals as goal

pub returns : goal.returns
returns c = rectangles_apart
