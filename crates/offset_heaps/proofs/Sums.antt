-- Sums over heaps, number by number.
use Rattle.std.proofs.Common.{◌≡◌, ℕ, zero, suc, ◌+◌, ◌<◌, max, length, List, [], ◌∷◌, Option, take, refl, sym, ap, ap₂, ◌∙◌}
use Rattle.std.proofs.Common.{arith, add-one}
use Rattle.offset_guarded.specs.Guard.{Guard}
use Rattle.offset_heaps.specs.declared.limits.Limits.{Limits}
use Rattle.offset_heaps.specs.declared.totals.Totals.{Totals}
use Rattle.offset_heaps.specs.Heaps.{AreTotals, free_of, largest_room, live_units_of, part, room_of, slot, total, units_of_heap}

total_next : (f : Guard → ℕ) (slots : List (Option Guard)) (n : ℕ) → n < length slots → total f (take (suc n) slots) ≡ total f (take n slots) + part f (slot n slots)
total_next f [] n l = absurd (omega arith)
total_next f (o ∷ slots) zero l = omega arith
total_next f (o ∷ slots) (suc n) l = let ih = total_next f slots n (omega arith) in omega arith

pub total_more : (f : Guard → ℕ) (slots : List (Option Guard)) (n : ℕ) → n < length slots → total f (take (n + 1) slots) ≡ total f (take n slots) + part f (slot n slots)
total_more f slots n l = rw add-one (total_next f slots n l)

largest_next : (limits : Limits) (k : ℕ) (slots : List (Option Guard)) (n : ℕ) → n < length slots
    → largest_room limits k (take (suc n) slots) ≡ max (largest_room limits k (take n slots)) (room_of limits (k + n) 1 (slot n slots))
largest_next limits k [] n l = absurd (omega arith)
largest_next limits k (o ∷ slots) zero l = let e : k + 0 ≡ k = omega arith in rw e (omega arith)
largest_next limits k (o ∷ slots) (suc n) l =
    let ih = largest_next limits (k + 1) slots n (omega (arith, l)) in
    let e : k + suc n ≡ k + 1 + n = omega arith in
    let last = ap (λ j. room_of limits j 1 (slot n slots)) e in
    omega (arith, ih, last)

pub largest_more : (limits : Limits) (slots : List (Option Guard)) (n : ℕ) → n < length slots
    → largest_room limits 0 (take (n + 1) slots) ≡ max (largest_room limits 0 (take n slots)) (room_of limits n 1 (slot n slots))
largest_more limits slots n l =
    let e : 0 + n ≡ n = omega arith in
    rw add-one (largest_next limits 0 slots n l ∙ ap (λ j. max (largest_room limits 0 (take n slots)) (room_of limits j 1 (slot n slots))) e)

pub take_all : (slots : List (Option Guard)) (n : ℕ) → n ≡ length slots → take n slots ≡ slots
take_all [] zero e = refl
take_all [] (suc n) e = refl
take_all (o ∷ slots) zero e = absurd (omega arith)
take_all (o ∷ slots) (suc n) e = ap (λ s. o ∷ s) (take_all slots n (omega arith))

-- the numbers of one more heap
pub totals_more : (limits : Limits) (slots : List (Option Guard)) (n : ℕ) (t u : Totals) (o : Option Guard) → o ≡ slot n slots → n < length slots → AreTotals t limits (take n slots)
    → u.heaps ≡ t.heaps + part (λ g. 1) o → u.units ≡ t.units + part units_of_heap o → u.live_units ≡ t.live_units + part live_units_of o → u.free_units ≡ t.free_units + part free_of o
    → u.largest_free_region ≡ max t.largest_free_region (room_of limits n 1 o) → AreTotals u limits (take (n + 1) slots)
totals_more limits slots n t u o e l was heaps units live free largest = record {
  heaps = heaps ∙ ap₂ (λ a b. a + b) was.heaps (ap (part (λ g. 1)) e) ∙ sym (total_more (λ g. 1) slots n l);
  units = units ∙ ap₂ (λ a b. a + b) was.units (ap (part units_of_heap) e) ∙ sym (total_more units_of_heap slots n l);
  live_units = live ∙ ap₂ (λ a b. a + b) was.live_units (ap (part live_units_of) e) ∙ sym (total_more live_units_of slots n l);
  free_units = free ∙ ap₂ (λ a b. a + b) was.free_units (ap (part free_of) e) ∙ sym (total_more free_of slots n l);
  largest = largest ∙ ap₂ max was.largest (ap (room_of limits n 1) e) ∙ sym (largest_more limits slots n l);
}
