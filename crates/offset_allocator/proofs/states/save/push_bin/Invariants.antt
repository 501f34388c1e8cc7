use Rattle.offset_allocator.proofs.{Common.◌≡◌, Common.◌-◌, Common.◌+◌, Common.◌++◌, Common.ℕ, Common.List, Common.length, Common.bin_at, Common.bins_in, Reporting.Largest.IsWalked}
use Rattle.offset_allocator.proofs.states.save.push_bin.Given as goal

abbrev pub invariant-loop-name : goal.invariant-loop-name
invariant-loop-name g l = record {
  met : List ℕ;
  walked : IsWalked g.T.Index.NodeIndex.MAX (g.T.Tables.cells l.tables).bins l.name met (bin_at (bins_in g.T.Index.NodeIndex.MAX (g.T.Tables.cells l.tables).bins) l.class);
  items : l.names.items ≡ l.fn.names.items ++ met;
}

abbrev pub decreases-loop-name : goal.decreases-loop-name
decreases-loop-name g l = (length l.fn.names.items + length (bin_at (bins_in g.T.Index.NodeIndex.MAX (g.T.Tables.cells l.tables).bins) l.class)) - length l.names.items
