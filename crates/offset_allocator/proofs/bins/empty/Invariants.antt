use Rattle.offset_allocator.proofs.Common.{◌≡◌, ◌+◌, length, replicate, take}
use Rattle.offset_allocator.proofs.bins.empty.Given as goal

abbrev pub invariant-loop-class : goal.invariant-loop-class
invariant-loop-class g l = record {
  rest : g.T.Tables.cells l.tables ≡ record (g.T.Tables.cells l.initial.tables) { bins = record (g.T.Tables.cells l.initial.tables).bins { heads = (g.T.Tables.cells l.tables).bins.heads } };
  even : length (g.T.Tables.cells l.tables).bins.heads ≡ length (g.T.Tables.cells l.initial.tables).bins.heads;
  written : take l.class (g.T.Tables.cells l.tables).bins.heads ≡ replicate l.class g.T.Index.NodeIndex.MAX;
  accesses : l.count ≡ l.initial.count + l.class;
}

abbrev pub invariant-loop-word : goal.invariant-loop-word
invariant-loop-word g l = record {
  rest : g.T.Tables.cells l.tables ≡ record (g.T.Tables.cells l.initial.tables) { bins = record (g.T.Tables.cells l.initial.tables).bins { masks = (g.T.Tables.cells l.tables).bins.masks } };
  even : length (g.T.Tables.cells l.tables).bins.masks ≡ length (g.T.Tables.cells l.initial.tables).bins.masks;
  written : take l.word (g.T.Tables.cells l.tables).bins.masks ≡ replicate l.word 0;
  accesses : l.count ≡ l.initial.count + l.word;
}
