use Rattle.offset_pictures.specs.Picture.{style}
use Rattle.offset_pictures.proofs.laws.a_picture_has_its_title.Goals as goal

pub returns : goal.returns
returns c = λ title course text p. (style, p.body, p.is)
