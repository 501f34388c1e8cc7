use Rattle.offset_allocator.proofs.Common.{◌≡◌, ◌+◌, ◌-◌, ◌*◌, ◌≤◌, List, ◌++◌, None, length, Block, blocks, last_or, units, placed}
use Rattle.offset_allocator.specs.AtOffset.{BeginAfter}
use Rattle.offset_allocator.proofs.at_offset.last_free_to.Given as goal

-- the blocks in front are left, and none of those in `met` is free and begins at the offset or before
abbrev pub invariant-loop-at : goal.invariant-loop-at
invariant-loop-at g l = record {
  front : List Block;
  met : List Block;
  is : blocks (g.T.Tables.cells l.tables).chain l.last ≡ front ++ met;
  ends : last_or None front ≡ l.at;
  after : BeginAfter l.offset (placed (units front) met);
  least : l.initial.count + 2 * length met ≤ l.count;
  accesses : l.count ≤ l.initial.count + 3 * length met;
}

abbrev pub decreases-loop-at : goal.decreases-loop-at
decreases-loop-at g l = l.initial.count + 3 * length (blocks (g.T.Tables.cells l.tables).chain l.last) - l.count
