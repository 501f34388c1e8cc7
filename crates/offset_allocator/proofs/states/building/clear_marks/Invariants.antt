use Rattle.offset_allocator.proofs.Common.{◌≡◌, ℕ, List, length, drop, Block}
use Rattle.offset_allocator.specs.Saving.Building.{HasBack, IsMade}
use Rattle.offset_allocator.proofs.states.building.clear_marks.Given as goal

abbrev pub invariant-loop-i : goal.invariant-loop-i
invariant-loop-i g l = record {
  back : (o : ℕ) (bs : List Block) → HasBack (g.T.Tables.cells l.fn.tables) o bs l.words → HasBack (g.T.Tables.cells l.tables) o bs (drop l.i l.words);
  spare : (g.T.Tables.cells l.tables).chain.spare ≡ (g.T.Tables.cells l.fn.tables).chain.spare;
  made : (n m : ℕ) → IsMade g.T.Index.NodeIndex.MAX n m (g.T.Tables.cells l.fn.tables) → IsMade g.T.Index.NodeIndex.MAX n m (g.T.Tables.cells l.tables);
  nodes : length (g.T.Tables.cells l.tables).chain.nodes ≡ length (g.T.Tables.cells l.fn.tables).chain.nodes;
}
