use Rattle.offset_pictures.proofs.Same.{scripts_law}
use Rattle.offset_pictures.proofs.laws.a_script_fixes_its_picture.Goals as goal

pub returns : goal.returns
returns c = scripts_law
