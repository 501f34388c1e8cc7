use Rattle.offset_allocator.proofs.Common.{◌+◌, ◌-◌, ◌*◌, length, blocks, if◌then◌else◌}
use Rattle.offset_allocator.proofs.{Moving.Walking.IsWalking, Moving.Ways.on_way}
use Rattle.offset_allocator.proofs.moves.runs.walk.Given as goal

abbrev pub invariant-loop-at : goal.invariant-loop-at
invariant-loop-at g l = let bs = blocks (g.T.Tables.cells l.tables).chain l.last in record {
  on : IsWalking l.back l.step l.want l.short (on_way l.back bs) l.span l.run l.at (l.fn.count + (if l.back then 0 else length bs)) l.count;
}

abbrev pub decreases-loop-at : goal.decreases-loop-at
decreases-loop-at g l =
    let n = length (blocks (g.T.Tables.cells l.tables).chain l.last) in
    (l.fn.count + (if l.back then 0 else n) + 6 * n) - l.count
