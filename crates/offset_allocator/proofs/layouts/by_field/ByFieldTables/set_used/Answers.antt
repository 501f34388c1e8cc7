use Rattle.offset_allocator.proofs.{Common.arith, Common.length-map, Common.map-set, Arranging.Fields.wrote-used}
use Rattle.offset_allocator.proofs.layouts.by_field.ByFieldTables.set_used.Goals as goal

pub returns-clause-cells : goal.returns-clause-cells
returns-clause-cells g c = grind (arith, length-map, map-set, wrote-used)
