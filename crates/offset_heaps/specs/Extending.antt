-- Heaps whose space becomes larger in place.
use Rattle.std.specs.Prelude.{◌≡◌, ℕ, ◌+◌, ◌<◌, ◌≤◌, ◌⊎◌, Bool, true, false, List, [], ◌∷◌, ◌++◌, Option, None, Some, length}
use Rattle.offset_allocator.specs.View.{Block, View, max_size}
use Rattle.offset_guarded.specs.Guard.{Guard}
use Rattle.offset_guarded.specs.Answers as tickets
use Rattle.offset_heaps.specs.declared.limits.Limits.{Limits}
use Rattle.offset_heaps.specs.Changing.{Alters}
use Rattle.offset_heaps.specs.Heaps.{Heaps, IsRaisedWhere, MustRaise, top_limit}

-- the last block of a space is free: more units become a part of it
abbrev pub EndsFree : View → Type 0
EndsFree v = (before : List Block) × (last : Block) × (v.blocks ≡ before ++ last ∷ []) × (last.used ≡ false)

-- the heap of a number, where there is one, can have n units more, under its largest node limit
abbrev pub CanExtendIn : Limits → ℕ → ℕ → Option Guard → Type 0
CanExtendIn limits k more None = ⊥
CanExtendIn limits k more (Some g) = 1 ≤ more → (g.space.size + more ≤ max_size) × ((length g.space.blocks + 1 < top_limit limits k g) ⊎ EndsFree g.space)

-- its node limit has to be raised for them: they become a further block
abbrev pub MustExtend : Limits → ℕ → ℕ → Guard → Type 0
MustExtend limits k more g = (1 ≤ more) × (EndsFree g.space → ⊥) × MustRaise limits k 1 g

-- the same of the heap of a number, where there is one
abbrev pub MustExtendIn : Limits → ℕ → ℕ → Option Guard → Type 0
MustExtendIn limits k more None = ⊥
MustExtendIn limits k more (Some g) = MustExtend limits k more g

-- the heap is extended by `more` units at its end; its node limit is first raised, where they need that
pub record ExtendsIn (limits : Limits) (k more : ℕ) (g h : Guard) : Type 0 where
  pub between : Guard
  pub raised : IsRaisedWhere (MustExtend limits k more) limits g between
  pub by : tickets.Extends more between h true

-- or it is refused, or not asked, where that can't be done
abbrev pub ExtendsIf : Limits → ℕ → ℕ → Bool → Guard → Guard → Type 0
ExtendsIf limits k more true g h = ExtendsIn limits k more g h
ExtendsIf limits k more false g h = (h ≡ g) ⊎ tickets.Extends more g h false

abbrev pub ExtendsHeap : ℕ → ℕ → Bool → Heaps → Heaps → Type 0
ExtendsHeap k more done hs ks = Alters k (ExtendsIf hs.limits k more done) hs ks
