use Rattle.offset_script.proofs.Totals.{few_law}
use Rattle.offset_script.proofs.laws.few_are_live.Goals as goal

pub returns : goal.returns
returns c = few_law
