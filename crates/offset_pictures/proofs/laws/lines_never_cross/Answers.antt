use Rattle.offset_pictures.proofs.Levelled.{levels_law}
use Rattle.offset_pictures.proofs.laws.lines_never_cross.Goals as goal

pub returns : goal.returns
returns c = levels_law
