-- The heap of a number, after a change of one.
use Rattle.std.proofs.Common.{◌≡◌, ◌≢◌, ℕ, ◌<◌, ◌≤◌, true, length, List, Option, None, is_some, slice_set, sym, ap, ◌∙◌, inl, inr, arith}
use Rattle.std.proofs.lemmas.Bool.{cases_lt, false≢true}
use Rattle.std.proofs.lemmas.List.{get_or-set_same, get_or-set_other, get_or_past, set-get_or}
use Rattle.offset_guarded.specs.Guard.{Guard}
use Rattle.offset_heaps.specs.declared.limits.Limits.{Limits}
use Rattle.offset_heaps.specs.Heaps.{slot, room_of}

pub slot_same : (slots : List (Option Guard)) (k : ℕ) (o : Option Guard) → k < length slots → slot k (slice_set slots k o) ≡ o
slot_same slots k o l = get_or-set_same slots k o None l

pub slot_other : (slots : List (Option Guard)) (k j : ℕ) (o : Option Guard) → j ≢ k → slot j (slice_set slots k o) ≡ slot j slots
slot_other slots k j o n = get_or-set_other slots k j o None n

pub slot_past : (slots : List (Option Guard)) (k : ℕ) → length slots ≤ k → slot k slots ≡ None
slot_past slots k l = get_or_past slots k None l

pub slot_there : (slots : List (Option Guard)) (k : ℕ) → is_some (slot k slots) ≡ true → k < length slots
slot_there slots k has = elim (cases_lt k (length slots)) [
  | inl l ↦ l
  | inr past ↦ absurd (false≢true (sym (ap is_some (slot_past slots k past)) ∙ has))
]

-- a heap that has room is there
pub room_there : (limits : Limits) (slots : List (Option Guard)) (blocks k n : ℕ) → 1 ≤ n → n ≤ room_of limits k blocks (slot k slots) → k < length slots
room_there limits slots blocks k n some fits = elim (cases_lt k (length slots)) [
  | inl l ↦ l
  | inr past ↦ absurd (let none : room_of limits k blocks (slot k slots) ≡ 0 = ap (room_of limits k blocks) (slot_past slots k past) in omega arith)
]

pub slot_set : (slots : List (Option Guard)) (k : ℕ) → slice_set slots k (slot k slots) ≡ slots
slot_set slots k = set-get_or slots k None
