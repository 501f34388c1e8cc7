use Rattle.offset_allocator.proofs.Common.{map-set}
use Rattle.offset_allocator.proofs.layouts.by_field.ByFieldTables.set_older.Goals as goal

pub returns-clause-cells : goal.returns-clause-cells
returns-clause-cells g c = rw (← c.self.view_is) (simp map-set)
