use Rattle.std.proofs.Common.{◌≡◌, replicate}
use Rattle.offset_heaps.proofs.maxima.Maxima.with_height.Given as goal

abbrev pub invariant-loop-place : goal.invariant-loop-place
invariant-loop-place l = l.cells.items ≡ replicate l._place 0
