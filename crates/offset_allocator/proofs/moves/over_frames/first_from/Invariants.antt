use Rattle.offset_allocator.proofs.Common.{◌≡◌, ◌≢◌, ◌+◌, ◌-◌, ◌*◌, ◌≤◌, List, ◌++◌, [], None, length, Block, blocks, last_or, units}
use Rattle.offset_allocator.specs.Moving.Budget.{first_from}
use Rattle.offset_allocator.proofs.moves.over_frames.first_from.Given as goal

-- the blocks in front are left, and those in `met` were met
abbrev pub invariant-loop-at : goal.invariant-loop-at
invariant-loop-at g l = record {
  front : List Block;
  met : List Block;
  is : blocks (g.T.Tables.cells l.tables).chain l.last ≡ front ++ met;
  ends : last_or None front ≡ l.at;
  some : met ≢ [];
  first : l.first ≡ first_from l.step l.from (units front) met;
  grows : l.initial.count ≤ l.count;
  least : l.initial.count + length met ≤ l.count + 1;
  most : l.count + 4 ≤ l.initial.count + 4 * length met;
}

abbrev pub decreases-loop-at : goal.decreases-loop-at
decreases-loop-at g l = l.initial.count + 4 * length (blocks (g.T.Tables.cells l.tables).chain l.last) - l.count
