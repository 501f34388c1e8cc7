-- Histories: what calls leave of many heaps, one after another, and the places of a heap that is gone.
use Rattle.std.specs.Prelude.{◌≡◌, ◌≢◌, ℕ, ◌<◌, ◌≤◌, List, [], ◌∷◌, Option, None, Some, IfSome}
use Rattle.std.specs.Int.{◌∣◌}
use Rattle.offset_guarded.specs.Calls.{Continues}
use Rattle.offset_guarded.specs.Guard.{Guard}
use Rattle.offset_heaps.specs.Heaps.{Heaps, heap_at, range_of}
use Rattle.offset_heaps.specs.Places.{Place}
use Rattle.offset_heaps.specs.Slots.{ResetsIn}

-- each heap is reset
pub record ResetsAll (hs ks : Heaps) : Type 0 where
  pub heaps : (k : ℕ) → ResetsIn (heap_at k hs) (heap_at k ks)
  pub rest : ks ≡ record hs { slots = ks.slots; accesses = ks.accesses }

-- what a call leaves of the heap of a number, where the heaps so far have realms up to `made`: none; one that continues what
-- there was; or, where there was none, one of a later realm
abbrev pub ContinuesIn : ℕ → Option Guard → Option Guard → Type 0
ContinuesIn made old None = Unit {0}
ContinuesIn made None (Some h) = made < h.realm
ContinuesIn made (Some g) (Some h) = Continues g h

-- what one call leaves
pub record IsStep (hs ks : Heaps) : Type 0 where
  pub realm : ks.realm ≡ hs.realm
  pub made : hs.made ≤ ks.made
  pub heaps : (k : ℕ) → ContinuesIn hs.made (heap_at k hs) (heap_at k ks)

-- what some calls leave, one after another
abbrev pub AreSteps : Heaps → List Heaps → Type 0
AreSteps hs [] = Unit {0}
AreSteps hs (ks ∷ later) = IsStep hs ks × AreSteps ks later

-- the heap of a place is gone: it was made, and its number has another one, or none
pub record IsGone (p : Place) (hs : Heaps) : Type 0 where
  pub made : p.heap_realm ≤ hs.made
  pub other : IfSome (heap_at p.heap hs) (λ g. p.heap_realm ≢ g.realm)

-- the range of a place, where it is live, begins at a multiple of a number
abbrev pub BeginsAt : ℕ → Place → Heaps → Type 0
BeginsAt a p hs = IfSome (range_of p hs) (λ r. a ∣ r.offset)
