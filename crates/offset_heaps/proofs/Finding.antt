-- What the index finds.
use Rattle.std.proofs.Common.{◌≡◌, ℕ, ◌+◌, ◌^◌, ◌<◌, ◌≤◌, min, Option, Some, None, List, MatchOption, IfSome, length, refl, sym, ap, ◌∙◌, subst, inl, inr, arith}
use Rattle.std.proofs.lemmas.Bool.{cases_eq, cases_lt, lt-ltb, le-ltb}
use Rattle.offset_guarded.specs.Guard.{Guard}
use Rattle.offset_heaps.specs.declared.index.Index.{Index}
use Rattle.offset_heaps.specs.declared.limits.Limits.{Limits}
use Rattle.offset_heaps.specs.Heaps.{Heaps, IsFirstFit, IsSpareLarger, IsSpareUsual, NoneFits, numbers, room_of, slot, usual_room}
use Rattle.offset_heaps.specs.{Maxima.IsFirst, Maxima.cell, Slots.IsBelow, Soundness.IsSound, Soundness.larger_key, Soundness.spare_of}
use Rattle.offset_heaps.proofs.{Doubling.room_low, Numbers.room_there, Places.shown}

module _ (max : ℕ) (slots : List (Option Guard)) (limits : Limits) (made : ℕ) (index : Index) (is : IsSound max slots limits made index) (realm accesses : ℕ) where
  abbrev heaps : Heaps
  heaps = shown slots limits made realm accesses

  fits_by : (blocks units : ℕ) (keys : List ℕ) → ((k : ℕ) → cell k keys ≡ room_of limits k blocks (slot k slots)) → (r : Option ℕ) → IsFirst units keys r
      → MatchOption r (NoneFits blocks units heaps) (λ k. IsFirstFit blocks units k heaps)
  fits_by blocks units keys keyed None h = λ k. subst (λ n. n < units) (keyed k) (h k)
  fits_by blocks units keys keyed (Some i) h = (subst (λ n. units ≤ n) (keyed i) h.1, λ j l. subst (λ n. n < units) (keyed j) (h.2 j l))

  pub first_fits : (units align : ℕ) (r : Option ℕ) → 1 ≤ align → (align ≡ 1 → IsFirst units index.one.keys r) → ((align ≡ 1 → ⊥) → IsFirst units index.two.keys r)
      → MatchOption r (NoneFits (min align 2) units heaps) (λ k. IsFirstFit (min align 2) units k heaps)
  first_fits units align r some one two = elim (cases_eq align 1) [
    | inl e ↦ let blocks : min align 2 ≡ 1 = omega arith in rw blocks (fits_by 1 units index.one.keys (λ k. (is.noted k).one) r (one e))
    | inr n ↦ let blocks : min align 2 ≡ 2 = omega arith in rw blocks (fits_by 2 units index.two.keys (λ k. (is.noted k).two) r (two n))
  ]

  pub fit_there : (blocks units : ℕ) (r : Option ℕ) → 1 ≤ units → MatchOption r (NoneFits blocks units heaps) (λ k. IsFirstFit blocks units k heaps)
      → IfSome r (λ k. k < length slots)
  fit_there blocks units None some h = tt
  fit_there blocks units (Some k) some h = room_there limits slots blocks k units some h.0

  -- the keys of the spare numbers
  usual_key : (size k : ℕ) → IsSpareUsual size k heaps → cell k index.spare.keys ≡ usual_room limits k
  usual_key size k s = (is.noted k).spare ∙ rw (s.1, lt-ltb k limits.most s.0) refl

  key_larger : (k : ℕ) → IsSpareLarger k heaps → cell k index.spare.keys ≡ larger_key
  key_larger k s = (is.noted k).spare ∙ rw (s.2, le-ltb k limits.most s.0, lt-ltb k (limits.most + limits.most_larger) s.1) refl

  usual_only : (size k : ℕ) (o : Option Guard) → 1 ≤ size → k < limits.most → size ≤ spare_of limits k o → (o ≡ None) × (size ≤ usual_room limits k)
  usual_only size k (Some g) some l h = absurd (omega arith)
  usual_only size k None some l h = (refl, rw (lt-ltb k limits.most l) at h)

  larger_only : (k : ℕ) (o : Option Guard) → limits.size < 2 ^ 32 → larger_key ≤ spare_of limits k o → (limits.most ≤ k) × (k < limits.most + limits.most_larger) × (o ≡ None)
  larger_only k (Some g) small h = absurd (omega arith)
  larger_only k None small h = elim (cases_lt k limits.most) [
    | inl l ↦ absurd (let key = rw (lt-ltb k limits.most l) at h in let low = room_low limits k small in omega (arith, key, low))
    | inr behind ↦ elim (cases_lt k (limits.most + limits.most_larger)) [
      | inl within ↦ (behind, within, refl)
      | inr past ↦ absurd (let none = rw (le-ltb k limits.most behind, le-ltb k (limits.most + limits.most_larger) past) at h in omega arith)
    ]
  ]

  pub usual_first : (size : ℕ) (r s : Option ℕ) → 1 ≤ size → IsFirst size index.spare.keys r → IsBelow limits.most r s
      → MatchOption s ((k : ℕ) → IsSpareUsual size k heaps → ⊥) (λ k. IsSpareUsual size k heaps × ((j : ℕ) → j < k → IsSpareUsual size j heaps → ⊥))
  usual_first size None s some h e = rw e (λ k u. let key = usual_key size k u in let low = h k in let fits = u.2 in omega (arith, key, low, fits))
  usual_first size (Some n) s some h (inl below) =
      let only = usual_only size n (slot n slots) some below.0 (subst (λ m. size ≤ m) (is.noted n).spare h.1) in
      rw below.1 (
        (below.0, only.0, only.1),
        λ j before u. let key = usual_key size j u in let low = h.2 j before in let fits = u.2 in omega (arith, key, low, fits),
      )
  usual_first size (Some n) s some h (inr behind) =
      rw behind.1 (λ k u. let key = usual_key size k u in let fits = u.2 in let low = h.2 k (omega (arith, u.0, behind.0)) in omega (arith, key, low, fits))

  pub larger_first : (r : Option ℕ) → limits.size < 2 ^ 32 → IsFirst larger_key index.spare.keys r
      → MatchOption r ((k : ℕ) → IsSpareLarger k heaps → ⊥) (λ k. IsSpareLarger k heaps × ((j : ℕ) → j < k → IsSpareLarger j heaps → ⊥))
  larger_first None small h = λ k s. let key = key_larger k s in let low = h k in omega (arith, key, low)
  larger_first (Some n) small h = (
    larger_only n (slot n slots) small (subst (λ m. larger_key ≤ m) (is.noted n).spare h.1),
    λ j before s. let key = key_larger j s in let low = h.2 j before in omega (arith, key, low),
  )

  -- the levels of the index
  pub levels : (hs : Heaps) → heaps ≡ hs → (bits : ℕ) → numbers hs ≤ 2 ^ bits → index.one.height ≤ bits
  levels hs e bits enough = is.low bits (subst (λ n. n ≤ 2 ^ bits) (sym (is.numbers ∙ ap numbers e)) enough)
