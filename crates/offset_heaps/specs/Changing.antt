-- What a call changes of one heap alone, in place: its ranges keep their places.
use Rattle.std.specs.Prelude.{◌≡◌, ◌↔◌, ℕ, ◌+◌, ◌*◌, ◌≤◌, IsTrue, Bool, true, false, not, ◌&&◌, ◌||◌, ◌⊎◌, nat_eq, nat_lt, if◌then◌else◌, List, [], ◌∷◌, ◌++◌, Option, None, Some, is_some, length, map, option_map}
use Rattle.offset_allocator.specs.Moving.BySteps.{CompactsBy, moves_by, run_by, used_up}
use Rattle.offset_allocator.specs.Moving.Compacting.{IsCalledWith, Move}
use Rattle.offset_allocator.specs.declared.moves.one_move.Move.{Move as Moved}
use Rattle.offset_allocator.specs.Ranges.{Range}
use Rattle.offset_allocator.specs.View.{Block, View}
use Rattle.offset_guarded.specs.Guard.{Guard, Ticket}
use Rattle.offset_guarded.specs.Guard as guarded
use Rattle.offset_allocator.specs.Moving.Retracting.{CanRetract}
use Rattle.offset_guarded.specs.Answers as tickets
use Rattle.offset_heaps.specs.declared.limits.Limits.{Limits}
use Rattle.offset_heaps.specs.Heaps.{Heaps, Puts, least_units, heap_at, range_of}
use Rattle.offset_heaps.specs.Places.{Place}

-- the heap of a number, which is there, is another one now, and all else stays
pub record Alters (k : ℕ) (P : Guard → Guard → Type 0) (hs ks : Heaps) : Type 0 where
  pub before : Guard
  pub after : Guard
  pub heap : heap_at k hs ≡ Some before
  pub by : P before after
  pub heaps : Puts k (Some after) hs ks

-- the same of one slot
pub record AltersIn (P : Guard → Guard → Type 0) (old new : Option Guard) : Type 0 where
  pub before : Guard
  pub after : Guard
  pub was : old ≡ Some before
  pub is : new ≡ Some after
  pub by : P before after

-- a place is live exactly if it was
abbrev pub KeepsLive : Heaps → Heaps → Type 0
KeepsLive hs ks = (p : Place) → is_some (range_of p ks) ≡ is_some (range_of p hs)

-- a place has n units after the call, from the same offset on
abbrev pub HasUnits : Place → ℕ → Heaps → Heaps → Type 0
HasUnits p n hs ks = (r : Range) → range_of p hs ≡ Some r → range_of p ks ≡ Some (record r { size = n })

-- every place has as many units as it had, and no other is live
abbrev pub KeepsSizes : Heaps → Heaps → Type 0
KeepsSizes hs ks = (p : Place) → option_map (λ (r : Range). r.size) (range_of p ks) ≡ option_map (λ (r : Range). r.size) (range_of p hs)

-- whether these blocks of a space can slide by a step: there is none, or a free block can follow them, since the node limit
-- admits one more, or one of them is used up
abbrev pub can_slide : ℕ → View → List Block → Bool
can_slide s v run = nat_eq (length run) 0 || (nat_lt (length v.blocks + 1) v.max_allocs || nat_lt 0 (length (used_up s run)))

-- whether a heap can be compacted by its step: it has one, and the blocks that slide by it can
abbrev pub can_compact : Guard → Bool
can_compact g = not (nat_eq g.step 0) && can_slide g.step g.space (run_by g.step g.space.blocks)

-- the heap of a number can be compacted, where there is one
abbrev pub IsCompactible : Option Guard → Type 0
IsCompactible None = Unit {0}
IsCompactible (Some g) = can_compact g ≡ true

-- the moves of a heap that is compacted
abbrev pub moves_in : Option Guard → List Move
moves_in None = []
moves_in (Some g) = if can_compact g then moves_by g.step 0 0 g.space.blocks else []

-- live ranges of a heap slide to the front by its step, where it has one, and else it stays
pub record CompactsIn (g h : Guard) : Type 0 where
  pub step : 1 ≤ g.step → CompactsBy g.step g.space h.space (can_compact g)
  pub none : g.step ≡ 0 → h ≡ g
  pub serials : h ≡ record g { space = h.space }
  pub sizes : guarded.KeepsSizes g h
  pub aligned : guarded.KeepsAlignments g h
  pub accesses : h.space.accesses ≤ g.space.accesses + 21 * length g.space.blocks + 40

-- moves, each with the number of their heap
abbrev pub numbered : ℕ → List Move → List (ℕ × Move)
numbered k ms = map (λ m. (k, m)) ms

-- the moves of these heaps, whose numbers are k and those after it, where each is compacted
abbrev pub moves_from : ℕ → List (Option Guard) → List (ℕ × Move)
moves_from k [] = []
moves_from k (o ∷ slots) = numbered k (moves_in o) ++ moves_from (k + 1) slots

-- a step of a closure is a call with this number and this move
abbrev pub IsCalledAt : {A N F : Type 0} → (N → ℕ) → (F → ℕ → Moved A N → F → Type 0) → F → ℕ × Move → F → Type 0
IsCalledAt number step f x g = IsCalledWith number (λ p m q. step p x.0 m q) f x.1 g

-- a heap is compacted, where there is one
abbrev pub CompactsSlot : Option Guard → Option Guard → Type 0
CompactsSlot None new = new ≡ None
CompactsSlot (Some g) new = (h : Guard) × (new ≡ Some h) × CompactsIn g h

-- all heaps are compacted, and nothing else changes
pub record CompactsAll (hs ks : Heaps) : Type 0 where
  pub heaps : (k : ℕ) → CompactsSlot (heap_at k hs) (heap_at k ks)
  pub rest : ks ≡ record hs { slots = ks.slots; accesses = ks.accesses }

-- units at the end of the heap of a number go, where its space can do it, and where the heap has its least units after it; else it
-- is refused, or not asked
pub record RetractsTo (limits : Limits) (k less : ℕ) (r : Bool) (g h : Guard) : Type 0 where
  pub done : IsTrue r ↔ ((least_units limits k + less ≤ g.space.size) × (1 ≤ less → CanRetract less g.space))
  pub step : r ≡ true → tickets.Retracts less g h true
  pub same : r ≡ false → (h ≡ g) ⊎ tickets.Retracts less g h false
  pub serials : h ≡ record g { space = h.space }
  pub accesses : h.space.accesses ≤ g.space.accesses + 64
