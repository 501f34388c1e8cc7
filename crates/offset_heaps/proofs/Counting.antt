-- Marks in a row are counted, and those of empty heaps say how many are empty.
use Rattle.std.proofs.Common.{◌≡◌, ℕ, Bool, true, zero, suc, ◌+◌, ◌<◌, ◌≤◌, List, [], ◌∷◌, Option, Some, None, length, slice_set, sum, if◌then◌else◌, nat_eq, refl, ap, inl, inr, arith}
use Rattle.std.proofs.lemmas.Bool.{cases_Bool, cases_eq}
use Rattle.std.proofs.lemmas.List.Sums.{sum_by-cons}
use Rattle.offset_allocator.specs.View.{count_used}
use Rattle.offset_guarded.specs.Guard.{Guard}
use Rattle.offset_heaps.specs.{Heaps.empties, Heaps.is_empty, Heaps.part, Heaps.slot, Maxima.AreBelow, Maxima.AreMarks, Maxima.cell, Soundness.empty_key}
use Rattle.offset_heaps.proofs.Trees.{cell_other, cell_same}

plus : (x : ℕ) (keys : List ℕ) → sum (x ∷ keys) ≡ x + sum keys
plus x keys = sum_by-cons (λ n. n) x keys

sum_set : (keys : List ℕ) (at key : ℕ) → at < length keys → sum (slice_set keys at key) + cell at keys ≡ sum keys + key
sum_set [] at key l = absurd (omega (arith, l))
sum_set (x ∷ keys) zero key l =
    let here : cell 0 (x ∷ keys) ≡ x = refl in
    let now : sum (slice_set (x ∷ keys) 0 key) ≡ key + sum keys = plus key keys in
    omega (arith, here, now, plus x keys)
sum_set (x ∷ keys) (suc at) key l =
    let rest = sum_set keys at key (omega (arith, l)) in
    let here : cell (suc at) (x ∷ keys) ≡ cell at keys = refl in
    let now : sum (slice_set (x ∷ keys) (suc at) key) ≡ x + sum (slice_set keys at key) = plus x (slice_set keys at key) in
    omega (arith, rest, here, now, plus x keys)

sum_small : (keys : List ℕ) → ((i : ℕ) → cell i keys ≤ 1) → sum keys ≤ length keys
sum_small [] small = omega arith
sum_small (x ∷ keys) small =
    let here : x ≤ 1 = small 0 in
    let rest = sum_small keys (λ i. small (suc i)) in
    omega (arith, here, rest, plus x keys)

pub sum_below : (keys : List ℕ) → AreBelow 1 keys → sum keys ≡ 0
sum_below [] below = refl
sum_below (x ∷ keys) below =
    let here : x < 1 = below 0 in
    let rest = sum_below keys (λ i. below (suc i)) in
    omega (arith, here, rest, plus x keys)

-- a mark is set, or taken away
pub marks_set : (marked later : ℕ) (keys : List ℕ) (at key : ℕ) → AreMarks marked keys → at < length keys → key ≤ 1 → later + cell at keys ≡ marked + key
    → AreMarks later (slice_set keys at key)
marks_set marked later keys at key are l low sums = record {
  count = let set = sum_set keys at key l in let was = are.count in omega (arith, set, was, sums);
  small = λ i. elim (cases_eq i at) [
    | inl e ↦ rw (e, cell_same keys at key l) low
    | inr n ↦ rw (cell_other keys at i key n) (are.small i)
  ];
}

-- a mark is one of those that are counted, which are no more than the numbers
pub mark_counted : (marked : ℕ) (keys : List ℕ) (at : ℕ) → AreMarks marked keys → at < length keys → (cell at keys ≤ marked) × (marked ≤ length keys)
mark_counted marked keys at are l =
    let none = sum_set keys at 0 l in
    let count = are.count in
    let few = sum_small keys are.small in
    (omega (arith, none, count), omega (arith, few, count))

-- as many heaps are empty as are marked
empty_part : (o : Option Guard) → part (λ (g : Guard). if nat_eq (count_used g.space.blocks) 0 then 1 else 0) o ≡ empty_key o
empty_part None = refl
empty_part (Some g) = refl

pub marks_of : (slots : List (Option Guard)) (keys : List ℕ) → length slots ≤ length keys → ((k : ℕ) → cell k keys ≡ empty_key (slot k slots)) → sum keys ≡ empties slots
marks_of [] keys fits noted = sum_below keys (λ i. let key = noted i in omega (arith, key))
marks_of (o ∷ slots) [] fits noted = absurd (omega (arith, fits))
marks_of (o ∷ slots) (x ∷ keys) fits noted =
    let here : x ≡ empty_key o = noted 0 in
    let part = empty_part o in
    let rest = marks_of slots keys (omega (arith, fits)) (λ k. noted (suc k)) in
    omega (arith, here, part, rest, plus x keys)

-- what a mark says of a heap
pub key_empty : (o : Option Guard) → 1 ≤ empty_key o → is_empty o ≡ true
key_empty o some = elim (cases_Bool (is_empty o)) [
  | inl t ↦ t
  | inr f ↦ absurd (let none : empty_key o ≡ 0 = ap (λ (b : Bool). if b then 1 else 0) f in omega (arith, some, none))
]
