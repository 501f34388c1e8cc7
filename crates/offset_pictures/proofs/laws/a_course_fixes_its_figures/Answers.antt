use Rattle.offset_pictures.proofs.Fixed.{figures_law}
use Rattle.offset_pictures.proofs.laws.a_course_fixes_its_figures.Goals as goal

pub returns : goal.returns
returns c = figures_law
