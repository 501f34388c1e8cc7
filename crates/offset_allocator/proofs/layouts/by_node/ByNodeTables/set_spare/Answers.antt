use Rattle.offset_allocator.proofs.Common.{map-set, with_spare}
use Rattle.offset_allocator.proofs.layouts.by_node.ByNodeTables.set_spare.Goals as goal

pub returns-clause-cells : goal.returns-clause-cells
unfolding with_spare
returns-clause-cells g c = rw (← c.self.view_is) (simp map-set)
