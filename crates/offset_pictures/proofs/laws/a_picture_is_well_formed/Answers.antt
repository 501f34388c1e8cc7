use Rattle.offset_pictures.proofs.Enclosed.{xml_law}
use Rattle.offset_pictures.proofs.laws.a_picture_is_well_formed.Goals as goal

pub returns : goal.returns
returns c = xml_law
