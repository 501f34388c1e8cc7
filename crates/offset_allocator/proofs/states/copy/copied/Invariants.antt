use Rattle.offset_allocator.proofs.Common.{◌≡◌, ◌<◌, ◌≤◌, ℕ, false, length, node}
use Rattle.offset_allocator.specs.Saving.Copying.{IsAlikeAt}
use Rattle.offset_allocator.proofs.states.copy.copied.Given as goal

abbrev pub invariant-loop-name : goal.invariant-loop-name
invariant-loop-name g l = record {
  nodes : length (g.T.Tables.cells l.into).chain.nodes ≡ length (g.T.Tables.cells l.from).chain.nodes;
  reserved : (g.T.Tables.cells l.into).chain.reserved ≡ l.limit;
  done : (x : ℕ) → x < l.name → IsAlikeAt x (g.T.Tables.cells l.from) (g.T.Tables.cells l.into);
  idle : (x : ℕ) → l.name ≤ x → (node (g.T.Tables.cells l.into).chain x).used ≡ false;
}
