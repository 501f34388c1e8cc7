use Rattle.offset_script.proofs.Common.{refl, ap₂}
use Rattle.offset_script.specs.Machine as machine
use Rattle.offset_script.proofs.keeper.KeeperOf.report.Goals as goal

pub returns : goal.returns
returns g c = ((refl, refl), ap₂ machine.Report c.storage_report.ensures.0 c.storage_report.ensures.1)
