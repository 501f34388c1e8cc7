-- Twins: what calls read of them is the same, and so is what a change of one heap leaves.
use Rattle.std.proofs.Common.{◌≡◌, ℕ, suc, ◌<◌, length, List, [], ◌∷◌, Option, Some, None, IfSome, slice_set, if◌then◌else◌, nat_eq, refl, sym, ap, ap₂}
use Rattle.std.proofs.Common.{subst, ◌∙◌, inl, inr, arith}
use Rattle.std.proofs.lemmas.Bool.{cases_eq}
use Rattle.offset_allocator.specs.{Ranges.Range, View.IsWellFormed}
use Rattle.offset_guarded.specs.Guard.{Guard}
use Rattle.offset_guarded.specs.Twins.{IsTwin}
use Rattle.offset_guarded.proofs.Twins as one
use Rattle.offset_guarded.proofs.Twins.{as_twin, range_twin, twin_sym, twin_trans}
use Rattle.offset_heaps.specs.Places.{Place, ticket_of}
use Rattle.offset_heaps.specs.Heaps.{Heaps, heap_at, part, range_in, range_of, room, room_of, slot, total}
use Rattle.offset_heaps.specs.{Slots.ResetsIn, Twins.AreTwins, Twins.IsTwinIn}
use Rattle.offset_heaps.proofs.Numbers.{slot_other, slot_same}

pub some_twin : (g h : Guard) (o p : Option Guard) → o ≡ Some g → p ≡ Some h → IsTwinIn o p → IsTwin g h
some_twin g h o p e f t =
    let u : IsTwinIn (Some g) p = subst (λ o. IsTwinIn o p) e t in
    let same : u.0 ≡ h = let q = sym u.1 ∙ f in cc in
    subst (IsTwin g) same u.2

pub twin_some : (g h : Guard) (o p : Option Guard) → o ≡ Some g → p ≡ Some h → IsTwin g h → IsTwinIn o p
twin_some g h o p e f t = subst (λ o. IsTwinIn o p) (sym e) (h, f, t)

pub reset_twins : (o o' p p' : Option Guard) → IfSome o (λ g. IsWellFormed g.space) → IsTwinIn o o' → ResetsIn o p → ResetsIn o' p' → IsTwinIn p p'
reset_twins None o' p p' known twin f f' =
    let none : p' ≡ None = subst (λ o. ResetsIn o p') twin f' in
    subst (λ p. IsTwinIn p p') (sym f) none
reset_twins (Some g) o' p p' known twin f f' =
    let k : ResetsIn (Some twin.0) p' = subst (λ o. ResetsIn o p') twin.1 f' in
    twin_some f.0 k.0 p p' f.1 k.1 (one.reset_twins g twin.0 f.0 k.0 known twin.2 f.2.step k.2.step f.2.serials k.2.serials f.2.gone)

-- ---- the heap of a number
pub option_twin : {A : Type 0} (f : Option Guard → A) (o p : Option Guard) → ((g h : Guard) → IsTwin g h → f (Some h) ≡ f (Some g)) → IsTwinIn o p → f p ≡ f o
option_twin f None p s t = ap f t
option_twin f (Some g) p s t = ap f t.1 ∙ s g t.0 t.2

pub in_twin : (P : Option Guard → Type 0) (o p : Option Guard) → ((g h : Guard) → IsTwin g h → P (Some g) → P (Some h)) → IsTwinIn o p → P o → P p
in_twin P None p each t x = subst P (sym t) x
in_twin P (Some g) p each t x = subst P (sym t.1) (each g t.0 t.2 x)

twin_in_sym : (o p : Option Guard) → IsTwinIn o p → IsTwinIn p o
twin_in_sym None p t = subst (λ p. IsTwinIn p None) (sym t) refl
twin_in_sym (Some g) p t = subst (λ p. IsTwinIn p (Some g)) (sym t.1) (g, refl, twin_sym g t.0 t.2)

pub twins_sym : (hs ks : Heaps) → AreTwins hs ks → AreTwins ks hs
twins_sym hs ks t = record { limits = sym t.limits; made = sym t.made; realm = sym t.realm; heaps = λ k. twin_in_sym (heap_at k hs) (heap_at k ks) (t.heaps k) }

module _ (hs ks : Heaps) (t : AreTwins hs ks) where
  pub room_twins : (blocks k : ℕ) → room_of ks.limits k blocks (heap_at k ks) ≡ room_of hs.limits k blocks (heap_at k hs)
  room_twins blocks k = ap (λ l. room_of l k blocks (heap_at k ks)) t.limits
      ∙ option_twin (room_of hs.limits k blocks) (heap_at k hs) (heap_at k ks) (λ g h u. ap (room hs.limits k blocks) (as_twin g h u)) (t.heaps k)

  pub none_twins : (k : ℕ) → heap_at k hs ≡ None → heap_at k ks ≡ None
  none_twins k e = subst (λ o. IsTwinIn o (heap_at k ks)) e (t.heaps k)

  pub range_twins : (p : Place) → range_of p ks ≡ range_of p hs
  range_twins p = ap₂ (λ (r : ℕ) (o : Option Range). if nat_eq p.realm r then o else None) t.realm
      (option_twin (range_in (ticket_of p)) (heap_at p.heap hs) (heap_at p.heap ks) (range_twin (ticket_of p)) (t.heaps p.heap))

-- ---- a twin of a twin
twin_in_trans : (o p q : Option Guard) → IsTwinIn o p → IsTwinIn p q → IsTwinIn o q
twin_in_trans None p q t u = subst (λ p. IsTwinIn p q) t u
twin_in_trans (Some g) p q t u =
    let v : IsTwinIn (Some t.0) q = subst (λ p. IsTwinIn p q) t.1 u in
    (v.0, v.1, twin_trans g t.0 v.0 t.2 v.2)

pub twins_trans : (hs ks ls : Heaps) → AreTwins hs ks → AreTwins ks ls → AreTwins hs ls
twins_trans hs ks ls t u = record {
  limits = u.limits ∙ t.limits;
  made = u.made ∙ t.made;
  realm = u.realm ∙ t.realm;
  heaps = λ k. twin_in_trans (heap_at k hs) (heap_at k ks) (heap_at k ls) (t.heaps k) (u.heaps k);
}

-- sums over heaps
pub total_twins : (f : Guard → ℕ) (xs bs : List (Option Guard)) → ((k : ℕ) → part f (slot k xs) ≡ part f (slot k bs)) → total f xs ≡ total f bs
total_twins f [] [] e = refl
total_twins f [] (b ∷ bs) e = let here = e 0 in let rest = total_twins f [] bs (λ k. e (suc k)) in omega arith
total_twins f (a ∷ xs) [] e = let here = e 0 in let rest = total_twins f xs [] (λ k. e (suc k)) in omega arith
total_twins f (a ∷ xs) (b ∷ bs) e = let here = e 0 in let rest = total_twins f xs bs (λ k. e (suc k)) in omega arith

-- ---- one number has another heap
pub put_twins : (k : ℕ) (xs bs : List (Option Guard)) (o p : Option Guard) → k < length xs → k < length bs → IsTwinIn o p → ((j : ℕ) → IsTwinIn (slot j xs) (slot j bs))
    → (j : ℕ) → IsTwinIn (slot j (slice_set xs k o)) (slot j (slice_set bs k p))
put_twins k xs bs o p there there' now was j = elim (cases_eq j k) [
  | inl e ↦ rw (e, slot_same xs k o there, slot_same bs k p there') now
  | inr d ↦ rw (slot_other xs k j o d, slot_other bs k j p d) (was j)
]
