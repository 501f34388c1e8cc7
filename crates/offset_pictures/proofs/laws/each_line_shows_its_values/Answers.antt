use Rattle.offset_pictures.proofs.Shown.{lines_law}
use Rattle.offset_pictures.proofs.laws.each_line_shows_its_values.Goals as goal

pub returns : goal.returns
returns c = lines_law
