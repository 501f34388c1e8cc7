use Rattle.offset_allocator.proofs.Common.{◌≡◌, length, take}
use Rattle.offset_allocator.proofs.states.copy.copy_bins.Given as goal

abbrev pub invariant-loop-class : goal.invariant-loop-class
invariant-loop-class g l = record {
  rest : g.T.Tables.cells l.into ≡ record (g.T.Tables.cells l.initial.into) { bins = record (g.T.Tables.cells l.initial.into).bins { heads = (g.T.Tables.cells l.into).bins.heads } };
  even : length (g.T.Tables.cells l.into).bins.heads ≡ length (g.T.Tables.cells l.initial.into).bins.heads;
  written : take l.class (g.T.Tables.cells l.into).bins.heads ≡ take l.class (g.T.Tables.cells l.from).bins.heads;
}

abbrev pub invariant-loop-word : goal.invariant-loop-word
invariant-loop-word g l = record {
  rest : g.T.Tables.cells l.into ≡ record (g.T.Tables.cells l.initial.into) { bins = record (g.T.Tables.cells l.initial.into).bins { masks = (g.T.Tables.cells l.into).bins.masks } };
  even : length (g.T.Tables.cells l.into).bins.masks ≡ length (g.T.Tables.cells l.initial.into).bins.masks;
  written : take l.word (g.T.Tables.cells l.into).bins.masks ≡ take l.word (g.T.Tables.cells l.from).bins.masks;
}
