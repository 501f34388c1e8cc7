-- Tight requests: which heap grants one, what it leaves, and why one is refused.
use Rattle.std.specs.Prelude.{◌≡◌, ℕ, ◌<◌, Some}
use Rattle.offset_guarded.specs.Answers as tickets
use Rattle.offset_heaps.specs.Asking.{IsServedBy}
use Rattle.offset_heaps.specs.declared.place.Granted.{Granted}
use Rattle.offset_heaps.specs.declared.refusal.Refusal.{Refusal}
use Rattle.offset_heaps.specs.declared.refusal.Refusal.TheVariants.{Memory}
use Rattle.offset_heaps.specs.Heaps.{Heaps, GrantsBy, IsWhyBy, heap_at}
use Rattle.offset_heaps.specs.Slots.{CanHoldIn}

-- no heap holds a request
abbrev pub NoneHolds : ℕ → ℕ → Heaps → Type 0
NoneHolds size align hs = (k : ℕ) → CanHoldIn hs.limits k size align (heap_at k hs) → ⊥

-- this heap is the first that holds it
abbrev pub IsFirstHolding : ℕ → ℕ → ℕ → Heaps → Type 0
IsFirstHolding size align k hs = CanHoldIn hs.limits k size align (heap_at k hs) × ((j : ℕ) → j < k → CanHoldIn hs.limits j size align (heap_at j hs) → ⊥)

-- a grant, which in a heap that was there is that of `allocate_tight_aligned` of tickets
abbrev pub GrantsTight : ℕ → ℕ → Heaps → Heaps → Granted → Type 0
GrantsTight size align hs ks grant = GrantsBy (λ t g h. tickets.AllocatesTightAligned size align g h (Some t)) size align hs ks grant

-- why a tight request is refused: as another, but that a heap serves it that holds it
abbrev pub IsWhyTight : ℕ → ℕ → Heaps → Refusal → Type 0
IsWhyTight size align hs r = IsWhyBy (NoneHolds size align) (IsFirstHolding size align) size align hs r

-- a tight request would be granted, if memory is given
abbrev pub IsServedTight : ℕ → ℕ → Heaps → Type 0
IsServedTight size align hs = IsServedBy (NoneHolds size align) (IsFirstHolding size align) size hs

-- it would be refused for this, even if memory is given
abbrev pub IsRefusedForTight : ℕ → ℕ → Heaps → Refusal → Type 0
IsRefusedForTight size align hs why = IsWhyTight size align hs why × (why ≡ Memory → ⊥)
