use Rattle.offset_script.proofs.Totals.{sums_law}
use Rattle.offset_script.proofs.laws.sizes_add_up.Goals as goal

pub returns : goal.returns
returns c = sums_law
