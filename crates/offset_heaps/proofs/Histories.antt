-- A heap that is gone stays gone, and no place of it is live.
use Rattle.std.proofs.Common.{◌≡◌, ◌≢◌, ℕ, ◌<◌, ◌≤◌, List, [], ◌∷◌, Option, Some, None, IfSome, IsSome, length, slice_set, nat_eq, refl, sym, ap, subst, ◌∙◌, inl, inr, arith, ne_eqb}
use Rattle.std.proofs.lemmas.Bool.{cases_eq, cases_lt}
use Rattle.std.specs.List.{AllByRecursion}
use Rattle.offset_allocator.specs.Ranges as named
use Rattle.offset_guarded.specs.Guard.{Guard}
use Rattle.offset_heaps.specs.Places.{Place, ticket_of}
use Rattle.offset_heaps.specs.Heaps.{Heaps, IsLive, Puts, heap_at, range_in, range_of, slot}
use Rattle.offset_heaps.specs.{Changing.Alters, Histories.AreSteps, Histories.ContinuesIn, Histories.IsGone, Histories.IsStep}
use Rattle.offset_heaps.proofs.{Numbers.slot_other, Numbers.slot_past, Numbers.slot_same, Places.none_if}

-- a number has no heap of this realm
abbrev Lacks : ℕ → Option Guard → Type 0
Lacks r o = IfSome o (λ g. r ≢ g.realm)

-- one number has another heap now
put_lacks : (r k j : ℕ) (slots : List (Option Guard)) (o : Option Guard) → k < length slots → Lacks r (slot j slots) → (j ≡ k → Lacks r o) → Lacks r (slot j (slice_set slots k o))
put_lacks r k j slots o there was now = elim (cases_eq j k) [
  | inl e ↦ subst (Lacks r) (sym (ap (λ i. slot i (slice_set slots k o)) e ∙ slot_same slots k o there)) (now e)
  | inr n ↦ subst (Lacks r) (sym (slot_other slots k j o n)) was
]

-- the heap of a number, in the same realm as before
same_realm : (r : ℕ) (o : Option Guard) (before after : Guard) → o ≡ Some before → after.realm ≡ before.realm → Lacks r o → Lacks r (Some after)
same_realm r o before after was is lacks e = subst (Lacks r) was lacks (e ∙ is)

pub realm_keeps : (p : Place) (k : ℕ) (hs ks : Heaps) → Alters k (λ g h. h.realm ≡ g.realm) hs ks → IsGone p hs → IsGone p ks
realm_keeps p k hs ks f gone = record {
  made = subst (λ n. p.heap_realm ≤ n) (sym (ap (λ (h : Heaps). h.made) f.heaps)) gone.made;
  other = subst (λ s. Lacks p.heap_realm (slot p.heap s)) (sym (ap (λ (h : Heaps). h.slots) f.heaps)) (elim (cases_lt k (length hs.slots)) [
    | inl there ↦ put_lacks p.heap_realm k p.heap hs.slots (Some f.after) there gone.other
        (λ e. same_realm p.heap_realm (heap_at p.heap hs) f.before f.after (ap (λ k. heap_at k hs) e ∙ f.heap) f.by gone.other)
    | inr past ↦ absurd (let none : slot k hs.slots ≡ None = slot_past hs.slots k past in let some = f.heap in cc)
  ]);
}

-- whatever one call leaves
pub stays_gone : (p : Place) (hs ks : Heaps) → IsGone p hs → IsStep hs ks → IsGone p ks
stays_gone p hs ks gone s = record {
  made = let l = gone.made in let m = s.made in omega (arith, l, m);
  other = go (heap_at p.heap hs) (heap_at p.heap ks) (s.heaps p.heap) gone.other;
}
  where
    go : (o new : Option Guard) → ContinuesIn hs.made o new → Lacks p.heap_realm o → Lacks p.heap_realm new
    go o None c lacks = tt
    go None (Some h) later lacks = λ e. absurd (let l = gone.made in omega (arith, later, e, l))
    go (Some g) (Some h) c lacks = λ e. lacks (e ∙ c.realm)

-- no place of it is live
gone_range : (p : Place) (o : Option Guard) → Lacks p.heap_realm o → range_in (ticket_of p) o ≡ None
gone_range p None lacks = refl
gone_range p (Some g) lacks = rw (ne_eqb p.heap_realm g.realm lacks) refl

pub gone_dead : (p : Place) (hs : Heaps) → IsGone p hs → IsLive p hs → ⊥
gone_dead p hs gone live =
    let none : range_of p hs ≡ None = none_if (nat_eq p.realm hs.realm) (range_in (ticket_of p) (heap_at p.heap hs)) (gone_range p (heap_at p.heap hs) gone.other) in
    let no : IsSome (let o : Option named.Range = None in o) = subst IsSome none live in
    absurd (cc)

pub never_live : (p : Place) (hs : Heaps) (later : List Heaps) → IsGone p hs → AreSteps hs later → AllByRecursion (λ ks. IsLive p ks → ⊥) (hs ∷ later)
never_live p hs [] gone steps = (gone_dead p hs gone, tt)
never_live p hs (ks ∷ later) gone steps = (gone_dead p hs gone, never_live p ks later (stays_gone p hs ks gone steps.0) steps.1)

-- a heap is gone once its number has none
pub dropped_gone : (p : Place) (g : Guard) (hs ks : Heaps) → heap_at p.heap hs ≡ Some g → g.realm ≤ hs.made → p.heap_realm ≡ g.realm → Puts p.heap None hs ks → IsGone p ks
dropped_gone p g hs ks there made own puts = record {
  made = omega (arith, made, own, ap (λ (h : Heaps). h.made) puts);
  other = subst (λ s. Lacks p.heap_realm (slot p.heap s)) (sym (ap (λ (h : Heaps). h.slots) puts)) (elim (cases_lt p.heap (length hs.slots)) [
    | inl l ↦ subst (Lacks p.heap_realm) (sym (slot_same hs.slots p.heap None l)) tt
    | inr past ↦ absurd (let none : slot p.heap hs.slots ≡ None = slot_past hs.slots p.heap past in cc)
  ]);
}
