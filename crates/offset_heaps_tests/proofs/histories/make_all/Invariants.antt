use Rattle.offset_heaps.specs.Histories.{IsGone}
use Rattle.offset_heaps_tests.proofs.histories.make_all.Given as goal

-- the heap is gone still
abbrev pub invariant-loop-change : goal.invariant-loop-change
invariant-loop-change l = IsGone l.fn.place l.heaps
