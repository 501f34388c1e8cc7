-- The ranges of places, after a change of the heap of one number.
use Rattle.std.proofs.Common.{◌≡◌, ◌≢◌, ℕ, ◌<◌, Bool, true, false, length, List, Option, Some, None, IsSome, slice_set, if◌then◌else◌, nat_eq, refl, sym, ap, ap₂, ◌∙◌, subst, inl, inr, eq-eqb, ne_eqb}
use Rattle.std.proofs.Common.{[], ◌∷◌, is_some, option_map, arith}
use Rattle.std.proofs.lemmas.Bool.{cases_Bool, cases_eq, eqb-true}
use Rattle.offset_allocator.specs.Ranges.{AreDisjoint, Range}
use Rattle.offset_allocator.specs.Ranges as named
use Rattle.offset_allocator.specs.View.{Block, is_used_at, place_of, count_used, Place as Position}
use Rattle.offset_allocator.proofs.Reading.{range_at}
use Rattle.offset_guarded.specs.Guard as guarded
use Rattle.offset_guarded.proofs.Guards.{live_fits}
use Rattle.offset_guarded.specs.Guard.{Guard, Ticket}
use Rattle.offset_heaps.specs.declared.limits.Limits.{Limits}
use Rattle.offset_heaps.specs.Places.{Place, ticket_of}
use Rattle.offset_heaps.specs.Heaps.{Heaps, AreAlike, KeepsOtherHeaps, KeepsOthers, IsLive, heap_at, is_empty, range_in, range_of, slot}
use Rattle.offset_heaps.specs.Slots.{KeepsOthersIn}
use Rattle.offset_heaps.proofs.Numbers.{slot_other, slot_same}

-- what the fields show
abbrev pub shown : List (Option Guard) → Limits → ℕ → ℕ → ℕ → Heaps
shown slots limits made realm accesses = record { slots = slots; limits = limits; made = made; realm = realm; accesses = accesses }

-- a range, where the realm is that of the heaps
abbrev pub range_if : Bool → Option Range → Option Range
range_if b o = if b then o else None

pub none_if : (b : Bool) (o : Option Range) → o ≡ None → range_if b o ≡ None
none_if true o e = e
none_if false o e = refl

-- a place of other heaps has none
pub other_realm : (p : Place) (hs : Heaps) → p.realm ≢ hs.realm → range_of p hs ≡ None
other_realm p hs n = ap (λ b. range_if b (range_in (ticket_of p) (heap_at p.heap hs))) (ne_eqb p.realm hs.realm n)

pub same_realm : (p : Place) (hs : Heaps) → p.realm ≡ hs.realm → range_of p hs ≡ range_in (ticket_of p) (heap_at p.heap hs)
same_realm p hs e = ap (λ b. range_if b (range_in (ticket_of p) (heap_at p.heap hs))) (eq-eqb p.realm hs.realm e)

module _ (hs ks : Heaps) (k : ℕ) (o : Option Guard) (put_slots : ks.slots ≡ slice_set hs.slots k o) (put_realm : ks.realm ≡ hs.realm) where
  at : (p : Place) → range_of p ks ≡ range_if (nat_eq p.realm hs.realm) (range_in (ticket_of p) (slot p.heap (slice_set hs.slots k o)))
  at p = ap₂ (λ r s. range_if (nat_eq p.realm r) (range_in (ticket_of p) (slot p.heap s))) put_realm put_slots

  pub put_others : KeepsOtherHeaps k hs ks
  put_others p n = at p ∙ ap (λ q. range_if (nat_eq p.realm hs.realm) (range_in (ticket_of p) q)) (slot_other hs.slots k p.heap o n)

  put_here : k < length hs.slots → (p : Place) → p.heap ≡ k → range_of p ks ≡ range_if (nat_eq p.realm hs.realm) (range_in (ticket_of p) o)
  put_here l p e = at p ∙ ap (λ q. range_if (nat_eq p.realm hs.realm) (range_in (ticket_of p) q)) (ap (λ j. slot j (slice_set hs.slots k o)) e ∙ slot_same hs.slots k o l)

  pub put_keeps : k < length hs.slots → (p : Place) → p.heap ≡ k → p.realm ≡ hs.realm → KeepsOthersIn (ticket_of p) (slot k hs.slots) o → KeepsOthers p hs ks
  put_keeps l p e r keeps q apart = elim (cases_eq q.heap k) [
    | inr n ↦ put_others q n
    | inl here ↦ elim (cases_eq q.realm hs.realm) [
      | inl same ↦
          put_here l q here
          ∙ ap (range_if (nat_eq q.realm hs.realm)) (keeps (ticket_of q) (λ alike. apart (here ∙ sym e, same ∙ sym r, alike))
          ∙ sym (ap (λ j. range_in (ticket_of q) (slot j hs.slots)) here))
      | inr other ↦ ap (λ b. range_if b (range_in (ticket_of q) (heap_at q.heap ks))) (ne_eqb q.realm ks.realm (λ e. other (e ∙ put_realm))) ∙ sym (other_realm q hs other)
    ]
  ]

-- a live place is one whose ticket is
pub live_place : (p : Place) (hs : Heaps) → p.realm ≡ hs.realm → IsSome (range_in (ticket_of p) (heap_at p.heap hs)) → IsLive p hs
live_place p hs e live = subst IsSome (sym (same_realm p hs e)) live

pub live_ticket : (p : Place) (hs : Heaps) → p.realm ≡ hs.realm → IsLive p hs → IsSome (range_in (ticket_of p) (heap_at p.heap hs))
live_ticket p hs e live = subst IsSome (same_realm p hs e) live

pub not_live_elsewhere : (p : Place) (hs : Heaps) → p.realm ≢ hs.realm → IsLive p hs → ⊥
not_live_elsewhere p hs n live = absurd (let o : Option Range = None in let none : IsSome o = subst IsSome (other_realm p hs n) live in cc)

-- with the same slots each place has its range
pub same_slots : (p : Place) (realm : ℕ) (old new : List (Option Guard)) → new ≡ old
    → range_if (nat_eq p.realm realm) (range_in (ticket_of p) (slot p.heap new)) ≡ range_if (nat_eq p.realm realm) (range_in (ticket_of p) (slot p.heap old))
same_slots p realm old new e = ap (λ s. range_if (nat_eq p.realm realm) (range_in (ticket_of p) (slot p.heap s))) e

-- a heap with no live range has no live ticket
none_used : (x : ℕ) (bs : List Block) → count_used bs ≡ 0 → is_used_at (place_of x bs) ≡ false
none_used x [] e = refl
none_used x (b ∷ bs) e = elim (cases_Bool b.used) [
  | inl u ↦ absurd (let one = rw u at e in omega arith)
  | inr f ↦ elim (cases_eq x b.name) [
    | inl here ↦ rw (eq-eqb x b.name here) f
    | inr there ↦ rw (ne_eqb x b.name there) (below b (place_of x bs) (none_used x bs (let rest = rw f at e in omega arith)))
  ]
]
  where
    below : (b : Block) (o : Option Position) → is_used_at o ≡ false → is_used_at (option_map (λ (p : Position). record p { before = b ∷ p.before }) o) ≡ false
    below b None h = refl
    below b (Some p) h = h

not_used : (o : Option Position) → is_used_at o ≡ false → range_at o ≡ None
not_used None h = refl
not_used (Some p) h = rw h refl

pub empty_range : (t : Ticket) (o : Option Guard) → is_empty o ≡ true → range_in t o ≡ None
empty_range t None e = refl
empty_range t (Some g) e = none_if (guarded.fits t g) (named.range_of t.name g.space) (not_used (place_of t.name g.space.blocks)
    (none_used t.name g.space.blocks (eqb-true (count_used g.space.blocks) 0 e)))

-- every place keeps its range where an empty heap is dropped
pub dropped_keeps : (hs ks : Heaps) (k : ℕ) → is_empty (heap_at k hs) ≡ true → heap_at k ks ≡ None → ks.realm ≡ hs.realm → KeepsOtherHeaps k hs ks → (p : Place) → range_of p ks ≡ range_of p hs
dropped_keeps hs ks k empty gone realm others p = elim (cases_eq p.heap k) [
  | inr n ↦ others p n
  | inl e ↦
      none_if (nat_eq p.realm ks.realm) (range_in (ticket_of p) (heap_at p.heap ks)) (rw (e, gone) refl)
      ∙ sym (none_if (nat_eq p.realm hs.realm) (range_in (ticket_of p) (heap_at p.heap hs)) (rw e (empty_range (ticket_of p) (heap_at k hs) empty)))
]

-- live places of one heap are apart
range_given : (b : Bool) (o : Option Range) (r : Range) → range_if b o ≡ Some r → (b ≡ true) × (o ≡ Some r)
range_given true o r e = (refl, e)
range_given false o r e = absurd (cc)

pub apart : (hs : Heaps) (number : ℕ) (g : Guard) → heap_at number hs ≡ Some g
    → ((x y : ℕ) (r s : Range) → x ≢ y → named.range_of x g.space ≡ Some r → named.range_of y g.space ≡ Some s → AreDisjoint r s)
    → (p q : Place) (r s : Range) → p.heap ≡ number → q.heap ≡ number → (AreAlike p q → ⊥) → range_of p hs ≡ Some r → range_of q hs ≡ Some s → AreDisjoint r s
apart hs number g there disjoint p q r s pn qn other pr qr =
    let p_in = range_given (nat_eq p.realm hs.realm) (range_in (ticket_of p) (heap_at p.heap hs)) r pr in
    let q_in = range_given (nat_eq q.realm hs.realm) (range_in (ticket_of q) (heap_at q.heap hs)) s qr in
    let p_heap : heap_at p.heap hs ≡ Some g = ap (λ k. heap_at k hs) pn ∙ there in
    let q_heap : heap_at q.heap hs ≡ Some g = ap (λ k. heap_at k hs) qn ∙ there in
    let p_range : guarded.range_of (ticket_of p) g ≡ Some r = sym (ap (range_in (ticket_of p)) p_heap) ∙ p_in.1 in
    let q_range : guarded.range_of (ticket_of q) g ≡ Some s = sym (ap (range_in (ticket_of q)) q_heap) ∙ q_in.1 in
    let p_fits = live_fits (ticket_of p) g (ap is_some p_range) in
    let q_fits = live_fits (ticket_of q) g (ap is_some q_range) in
    let p_name = range_given (guarded.fits (ticket_of p) g) (named.range_of p.name g.space) r p_range in
    let q_name = range_given (guarded.fits (ticket_of q) g) (named.range_of q.name g.space) s q_range in
    elim (cases_eq p.name q.name) [
      | inr n ↦ disjoint p.name q.name r s n p_name.1 q_name.1
      | inl e ↦ absurd (other (
        pn ∙ sym qn,
        eqb-true p.realm hs.realm p_in.0 ∙ sym (eqb-true q.realm hs.realm q_in.0),
        (e, p_fits.1 ∙ ap (λ x. guarded.serial_of x g) e ∙ sym q_fits.1, p_fits.0 ∙ sym q_fits.0),
      ))
    ]
