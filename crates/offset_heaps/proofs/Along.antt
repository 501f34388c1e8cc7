-- The live places of all heaps, one after another.
use Rattle.std.proofs.Common.{◌≡◌, ℕ, suc, ◌+◌, ◌≤◌, length, None, drop, sym, ap, ◌∙◌, inl, inr, arith}
use Rattle.std.specs.Option.{option_or}
use Rattle.std.proofs.lemmas.Bool.{cases_lt}
use Rattle.std.proofs.Math.Seq.{drop-cons}
use Rattle.std.proofs.lemmas.List.{drop_all}
use Rattle.offset_heaps.specs.Heaps.{Heaps, heap_at}
use Rattle.offset_heaps.specs.Numbering.{first_among, first_from, first_live_in}
use Rattle.offset_heaps.proofs.{Numbers.slot_past}

pub first_past : (k : ℕ) (hs : Heaps) → length hs.slots ≤ k → first_from k hs ≡ None
first_past k hs past = ap (first_among k hs.realm) (drop_all k hs.slots past)

-- the first one from a number on is in its heap, or else in those behind it
pub first_step : (k : ℕ) (hs : Heaps) → first_from k hs ≡ option_or (first_live_in k hs.realm (heap_at k hs)) (first_from (k + 1) hs)
first_step k hs = elim (cases_lt k (length hs.slots)) [
  | inl l ↦
      let e : suc k ≡ k + 1 = omega arith in
      ap (first_among k hs.realm) (drop-cons hs.slots k None l)
      ∙ ap (λ (j : ℕ). option_or (first_live_in k hs.realm (heap_at k hs)) (first_among (k + 1) hs.realm (drop j hs.slots))) e
  | inr past ↦ first_past k hs past ∙ sym (ap (λ o. option_or (first_live_in k hs.realm o) (first_from (k + 1) hs)) (slot_past hs.slots k past) ∙ first_past (k + 1) hs (omega arith))
]
