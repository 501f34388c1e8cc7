use Rattle.offset_allocator.proofs.Common.{◌≡◌, ◌+◌, ◌-◌, ◌*◌, List, ◌++◌, None, [], length, Block, blocks, last_or, first_free}
use Rattle.offset_allocator.specs.Moving.Compacting.{until}
use Rattle.offset_allocator.proofs.moves.compact.first_free.Given as goal

-- the blocks in front are left, those in `met` were met, and the search began before those in `rest`
abbrev pub invariant-loop-at : goal.invariant-loop-at
invariant-loop-at g l = record {
  front : List Block;
  met : List Block;
  rest : List Block;
  is : blocks (g.T.Tables.cells l.tables).chain l.last ≡ front ++ (met ++ rest);
  ends : last_or None front ≡ l.at;
  first : l.first ≡ first_free met;
  whole : first_free (front ++ met) ≡ None → rest ≡ [];
  all : until l.start (blocks (g.T.Tables.cells l.tables).chain l.last) ≡ length front + length met;
  accesses : l.count ≡ l.initial.count + 2 * length met;
}

abbrev pub decreases-loop-at : goal.decreases-loop-at
decreases-loop-at g l = l.initial.count + 2 * length (blocks (g.T.Tables.cells l.tables).chain l.last) - l.count
