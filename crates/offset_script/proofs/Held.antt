-- After each call the handles that are kept are live, and no two have one name.
use Rattle.offset_script.proofs.Common.{◌≡◌, ◌≢◌, ℕ, zero, suc, ◌+◌, ◌-◌, ◌<◌, List, [], ◌∷◌, ◌++◌, length, Option, Some, None, IfSome, is_some, slice_set, nat_eq, if◌then◌else◌}
use Rattle.offset_script.proofs.Common.{refl, sym, ap, subst, subst₂, ◌∙◌, inl, inr, arith, eq-eqb, ne_eqb, cases_eq, View, Handle, SameSpace, kept_name, false≢true}
use Rattle.offset_allocator.specs.Ranges.{Grants, IsLive, KeepsAll, KeepsOthers, range_of}
use Rattle.offset_script.specs.Steps.{AreHeld, MayBeKept, Stays}
use Rattle.offset_script.proofs.Simulation.{kept_push, kept_set, kept_within}

-- a name that is live holds a range
has_range : (x y : ℕ) (v : View) → x ≡ y → range_of y v ≡ None → IsLive x v → ⊥
has_range x y v same none live = false≢true (sym (ap is_some none) ∙ ap (λ z. is_some (range_of z v)) (sym same) ∙ live)

-- a name stays live where its range stays
stays_live : (x : ℕ) (v w : View) → range_of x w ≡ range_of x v → IsLive x v → IsLive x w
stays_live x v w same live = ap is_some same ∙ live

-- where all ranges stay
pub held_kept : (v w : View) (hs : List (Option Handle)) → KeepsAll v w → AreHeld v hs → AreHeld w hs
held_kept v w hs same h = record { live = λ k x e. stays_live x v w (same x) (h.live k x e); apart = h.apart }

-- where nothing changes
pub held_stays : (v w : View) (hs left : List (Option Handle)) → Stays v hs w left → AreHeld v hs → AreHeld w left
held_stays v w hs left same h = subst₂ AreHeld (sym same.0) (sym same.1) h

-- after a request
pub held_granted : (n : ℕ) (v w : View) (hs : List (Option Handle)) (r : Option Handle) → IfSome r (Grants n v w) → (r ≡ None → SameSpace v w) → AreHeld v hs → AreHeld w hs
held_granted n v w hs None g same h = held_kept v w hs (λ x. ap (range_of x) (same refl)) h
held_granted n v w hs (Some a) g same h = record {
  live = λ k x e. stays_live x v w (g.others x (λ is. has_range x a.name v is g.not_live (h.live k x e))) (h.live k x e);
  apart = h.apart;
}

-- what was granted may be kept
pub may_be_kept : (n : ℕ) (v w : View) (hs : List (Option Handle)) (r : Option Handle) → IfSome r (Grants n v w) → AreHeld v hs → MayBeKept r w hs
may_be_kept n v w hs None g h = tt
may_be_kept n v w hs (Some a) g h = (ap is_some g.range, λ k e. has_range a.name a.name v refl g.not_live (h.live k a.name e))

module _ (hs : List (Option Handle)) (a : Handle) where
  -- the name of the last grant after one more handle is kept, and those of the others
  last_name : (k x : ℕ) → k ≡ length hs + 1 → kept_name (hs ++ Some a ∷ []) k ≡ Some x → a.name ≡ x
  last_name k x is e = let f = sym (kept_push hs a k ∙ ap (λ b. if b then Some a.name else kept_name hs k) (eq-eqb k (length hs + 1) is)) ∙ e in cc

  other_name : (k x : ℕ) → k ≢ length hs + 1 → kept_name (hs ++ Some a ∷ []) k ≡ Some x → kept_name hs k ≡ Some x
  other_name k x is e = sym (kept_push hs a k ∙ ap (λ b. if b then Some a.name else kept_name hs k) (ne_eqb k (length hs + 1) is)) ∙ e

  -- after one more handle is kept
  pub held_pushed : (v : View) (left : List (Option Handle)) → left ≡ hs ++ Some a ∷ [] → MayBeKept (Some a) v hs → AreHeld v hs → AreHeld v left
  held_pushed v left is may h = subst (AreHeld v) (sym is) (record {
    live = λ k x e. elim (cases_eq k (length hs + 1)) [
      | inl s ↦ subst (λ y. IsLive y v) (last_name k x s e) may.0
      | inr n ↦ h.live k x (other_name k x n e)
    ];
    apart = λ j k x d e. elim (cases_eq j (length hs + 1)) [
      | inl s ↦ elim (cases_eq k (length hs + 1)) [
        | inl t ↦ s ∙ sym t
        | inr t ↦ absurd (may.1 k (other_name k x t e ∙ ap Some (sym (last_name j x s d))))
      ]
      | inr s ↦ elim (cases_eq k (length hs + 1)) [
        | inl t ↦ absurd (may.1 j (other_name j x s d ∙ ap Some (sym (last_name k x t e))))
        | inr t ↦ h.apart j k x (other_name j x s d) (other_name k x t e)
      ]
    ];
  })

-- after a release, whose handle is removed
pub held_freed : (v w : View) (hs : List (Option Handle)) (k x : ℕ) → kept_name hs k ≡ Some x → KeepsOthers x v w → AreHeld v hs → AreHeld w (slice_set hs (k - 1) None)
held_freed v w hs zero x named others h = absurd (cc)
held_freed v w hs (suc i) x named others h = subst (λ j. AreHeld w (slice_set hs j None)) (let same : i ≡ suc i - 1 = omega arith in same) (record {
  live = λ j y e. stays_live y v w (others y (λ is. was j y e (h.apart j (suc i) y (is_kept j y e) (named ∙ ap Some (sym is))))) (h.live j y (is_kept j y e));
  apart = λ j k y d e. h.apart j k y (is_kept j y d) (is_kept k y e);
})
  where
    within : i < length hs
    within = let l = (kept_within hs (suc i) x named).1 in omega arith

    left : (j y : ℕ) → kept_name (slice_set hs i None) j ≡ Some y → (if nat_eq j (suc i) then None else kept_name hs j) ≡ Some y
    left j y e = sym (kept_set hs i within j) ∙ e

    was : (j y : ℕ) → kept_name (slice_set hs i None) j ≡ Some y → j ≢ suc i
    was j y e is = let f = sym (ap (λ b. if b then None else kept_name hs j) (eq-eqb j (suc i) is)) ∙ left j y e in cc

    is_kept : (j y : ℕ) → kept_name (slice_set hs i None) j ≡ Some y → kept_name hs j ≡ Some y
    is_kept j y e = sym (ap (λ b. if b then None else kept_name hs j) (ne_eqb j (suc i) (was j y e))) ∙ left j y e

-- where no handle is kept
pub held_none : (v : View) (hs : List (Option Handle)) → ((k : ℕ) → kept_name hs k ≡ None) → AreHeld v hs
held_none v hs none = record {
  live = λ k x e. absurd (let n = none k in cc);
  apart = λ j k x d e. absurd (let n = none j in cc);
}
