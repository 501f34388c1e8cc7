use Rattle.offset_allocator.proofs.Common.{◌≡◌, take, bins_in}
use Rattle.std.specs.List.{concat}
use Rattle.offset_allocator.proofs.states.save.names_in_bins.Given as goal

abbrev pub invariant-loop-class : goal.invariant-loop-class
invariant-loop-class g l = l.names.items ≡ concat (take l.class (bins_in g.T.Index.NodeIndex.MAX (g.T.Tables.cells l.tables).bins))
