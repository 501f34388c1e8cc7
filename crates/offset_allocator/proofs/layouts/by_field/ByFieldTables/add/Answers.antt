use Rattle.offset_allocator.proofs.{Common.arith, Common.length-map, Common.map-set, Common.with_node, Common.common_steps, Arranging.Fields.length-nodes_in, Arranging.Fields.pushed, Arranging.Fields.linked}
use Rattle.offset_allocator.proofs.layouts.by_field.ByFieldTables.add.Goals as goal

pub returns : goal.returns
unfolding with_node
returns g c = grind (arith, common_steps, pushed, length-map, linked, length-nodes_in, map-set)
