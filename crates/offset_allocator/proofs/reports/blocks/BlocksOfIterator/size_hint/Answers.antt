use Rattle.offset_allocator.proofs.{Common.arith, Common.common_steps, Reporting.Listing.length-left}
use Rattle.offset_allocator.proofs.reports.blocks.BlocksOfIterator.size_hint.Goals as goal

pub returns : goal.returns
returns g c = grind (arith, common_steps, length-left)
