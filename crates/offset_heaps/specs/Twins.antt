-- Heaps of which every later call returns the same.
use Rattle.std.specs.Prelude.{◌≡◌, ℕ, Option, Some, None}
use Rattle.offset_guarded.specs.Guard.{Guard}
use Rattle.offset_guarded.specs.Twins.{IsTwin}
use Rattle.offset_heaps.specs.Heaps.{Heaps, heap_at}

-- of the heap of a number, where there is one
abbrev pub IsTwinIn : Option Guard → Option Guard → Type 0
IsTwinIn None other = other ≡ None
IsTwinIn (Some g) other = (h : Guard) × (other ≡ Some h) × IsTwin g h

-- the same of many heaps
pub record AreTwins (hs ks : Heaps) : Type 0 where
  pub limits : ks.limits ≡ hs.limits
  pub made : ks.made ≡ hs.made
  pub realm : ks.realm ≡ hs.realm
  pub heaps : (k : ℕ) → IsTwinIn (heap_at k hs) (heap_at k ks)
