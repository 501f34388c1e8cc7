use Rattle.offset_allocator.proofs.{Common.arith, Common.common_steps, Ranges.live_inside, Ranges.live_disjoint}
use Rattle.offset_allocator.proofs.laws.ranges_are_disjoint.Goals as goal

pub returns : goal.returns
returns g c = grind (arith, common_steps, live_inside, live_disjoint)
