use Rattle.offset_allocator.proofs.Common.{◌≡◌, [], ℕ, List, length, take, Block}
use Rattle.offset_allocator.specs.Saving.Building.{HasBack, IsMade}
use Rattle.offset_allocator.proofs.states.building.place_unused.Given as goal

abbrev pub invariant-loop-i : goal.invariant-loop-i
invariant-loop-i g l = record {
  back : (o : ℕ) (bs : List Block) → HasBack (g.T.Tables.cells l.fn.tables) o bs [] → HasBack (g.T.Tables.cells l.tables) o bs (take l.i l.words);
  spare : take l.i (g.T.Tables.cells l.tables).chain.spare ≡ take l.i l.words;
  made : (n m : ℕ) → IsMade g.T.Index.NodeIndex.MAX n m (g.T.Tables.cells l.fn.tables) → IsMade g.T.Index.NodeIndex.MAX n m (g.T.Tables.cells l.tables);
  nodes : length (g.T.Tables.cells l.tables).chain.nodes ≡ length (g.T.Tables.cells l.fn.tables).chain.nodes;
}
