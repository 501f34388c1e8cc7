use Rattle.offset_script.proofs.Fresh.{extended_law}
use Rattle.offset_script.proofs.laws.an_extended_space_is_larger.Goals as goal

pub returns : goal.returns
returns c = extended_law
