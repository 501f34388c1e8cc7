use Rattle.offset_allocator.proofs.Common.{◌≡◌, ◌+◌, ◌-◌, ◌*◌, List, ◌++◌, None, length, Block, blocks, last_or, units, placed}
use Rattle.offset_allocator.specs.Reporting.Walking.{first_handle}
use Rattle.offset_allocator.proofs.Reporting.Foremost.{name_of}
use Rattle.offset_allocator.proofs.reports.walks.first_used.Given as goal

-- the blocks in front are left, and those in `met` were met
abbrev pub invariant-loop-at : goal.invariant-loop-at
invariant-loop-at g l = record {
  front : List Block;
  met : List Block;
  is : blocks (g.T.Tables.cells l.tables).chain l.last ≡ front ++ met;
  ends : last_or None front ≡ l.at;
  first : l.first ≡ name_of (first_handle (placed (units front) met));
  accesses : l.count ≡ l.initial.count + 2 * length met;
}

abbrev pub decreases-loop-at : goal.decreases-loop-at
decreases-loop-at g l = l.initial.count + 2 * length (blocks (g.T.Tables.cells l.tables).chain l.last) - l.count
