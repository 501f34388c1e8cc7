use Rattle.offset_allocator.proofs.Common.{◌≡◌, ◌+◌, ◌-◌, List, ◌++◌, None, Some, length, Block, blocks, first_or, last_or}
use Rattle.offset_allocator.proofs.moves.runs.begin.Given as goal

-- the blocks in front are left, and those in `met` were met
abbrev pub invariant-loop-at : goal.invariant-loop-at
invariant-loop-at g l = record {
  front : List Block;
  met : List Block;
  is : blocks (g.T.Tables.cells l.tables).chain l.last ≡ front ++ met;
  ends : last_or None front ≡ l.at;
  first : first_or None met ≡ Some l.first;
  counted : l.count ≡ l.fn.count + length met;
}

abbrev pub decreases-loop-at : goal.decreases-loop-at
decreases-loop-at g l = l.fn.count + length (blocks (g.T.Tables.cells l.tables).chain l.last) - l.count
