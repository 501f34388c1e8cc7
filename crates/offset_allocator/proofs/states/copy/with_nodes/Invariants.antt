use Rattle.offset_allocator.specs.Saving.Copying.{IsIdle}
use Rattle.offset_allocator.proofs.states.copy.with_nodes.Given as goal

abbrev pub invariant-loop-made : goal.invariant-loop-made
invariant-loop-made g l = IsIdle g.T.Index.NodeIndex.MAX l.made l.limit (g.T.Tables.cells l.tables)
