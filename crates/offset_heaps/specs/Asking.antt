-- What a request would be answered now.
use Rattle.std.specs.Prelude.{◌≡◌, ℕ, ◌≤◌, ◌⊎◌, Option, None, Some}
use Rattle.offset_allocator.specs.Requests.{blocks_needed, units_needed}
use Rattle.offset_heaps.specs.declared.refusal.Refusal.{Refusal}
use Rattle.offset_heaps.specs.declared.refusal.Refusal.TheVariants.{TooLarge, Full, Memory}
use Rattle.offset_heaps.specs.Heaps.{Heaps, IsFirstFit, IsNext, IsUnmet, IsWhy, MayEverFit, NoneFits}

-- a request would be granted, if memory is given: some heap serves it, or another may be made
abbrev pub IsServedBy : (Heaps → Type 0) → (ℕ → Heaps → Type 0) → ℕ → Heaps → Type 0
IsServedBy NoneServes FirstServes size hs = (1 ≤ size) × (((k : ℕ) × FirstServes k hs) ⊎ (IsUnmet NoneServes size hs × ((k : ℕ) × IsNext size k hs)))

-- where a heap serves it that has room
abbrev pub IsServed : ℕ → ℕ → Heaps → Type 0
IsServed size align hs = IsServedBy (NoneFits (blocks_needed align) (units_needed size align)) (IsFirstFit (blocks_needed align) (units_needed size align)) size hs

-- it would be refused for this, even if memory is given
abbrev pub IsRefusedFor : ℕ → ℕ → Heaps → Refusal → Type 0
IsRefusedFor size align hs why = IsWhy size align hs why × (why ≡ Memory → ⊥)

-- why none is made for a request that no heap has room for: none may ever fit, or none may be made now; or nothing, where
-- one may
abbrev pub IsWhyNone : ℕ → Heaps → Option Refusal → Type 0
IsWhyNone size hs None = (k : ℕ) × IsNext size k hs
IsWhyNone size hs (Some TooLarge) = MayEverFit size hs → ⊥
IsWhyNone size hs (Some Full) = MayEverFit size hs × ((k : ℕ) → IsNext size k hs → ⊥)
IsWhyNone size hs (Some why) = ⊥
