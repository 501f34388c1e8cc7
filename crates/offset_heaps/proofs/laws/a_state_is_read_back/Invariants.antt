use Rattle.std.proofs.Common.{◌+◌, ◌<◌, ℕ, IfSome}
use Rattle.offset_guarded.specs.State.{IsWellFormed}
use Rattle.offset_heaps.specs.Heaps.{heap_at}
use Rattle.offset_heaps.proofs.laws.a_state_is_read_back.Given as goal

-- the heaps so far are well formed
abbrev pub invariant-loop-number : goal.invariant-loop-number
invariant-loop-number g l = (k : ℕ) → k < l.number → IfSome (heap_at k l.heaps) (λ h. IsWellFormed h × (h.space.max_allocs + 1 < g.T.Index.NodeIndex.MAX))
