use Rattle.offset_allocator.proofs.Common.{◌≡◌, ◌+◌, ◌*◌, [], ℕ, List, None, Some, length, take, link_of, first_or, last_or, Block, units}
use Rattle.offset_allocator.specs.{Saving.Building.HasBack, Saving.Building.IsMade, Saving.State.block_words}
use Rattle.offset_allocator.proofs.states.building.place_blocks.Given as goal

abbrev pub invariant-loop-i : goal.invariant-loop-i
invariant-loop-i g l = record {
  blocks : List Block;
  back : HasBack (g.T.Tables.cells l.tables) l.left blocks [];
  words : block_words blocks ≡ take (2 * l.i) l.words;
  next : first_or None blocks ≡ link_of g.T.Index.NodeIndex.MAX (g.T.Index.NodeIndex.number l.next);
  last : (blocks ≡ [] → ⊥) → last_or None blocks ≡ Some l.last;
  whole : l.left + units blocks ≡ l.size;
  made : (n m : ℕ) → IsMade g.T.Index.NodeIndex.MAX n m (g.T.Tables.cells l.fn.tables) → IsMade g.T.Index.NodeIndex.MAX n m (g.T.Tables.cells l.tables);
  nodes : length (g.T.Tables.cells l.tables).chain.nodes ≡ length (g.T.Tables.cells l.fn.tables).chain.nodes;
}
