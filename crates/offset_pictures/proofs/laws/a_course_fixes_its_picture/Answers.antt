use Rattle.offset_pictures.proofs.Same.{pictures_law}
use Rattle.offset_pictures.proofs.laws.a_course_fixes_its_picture.Goals as goal

pub returns : goal.returns
returns c = pictures_law
