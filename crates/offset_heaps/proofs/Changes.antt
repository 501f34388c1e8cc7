-- After a change of one heap, in place.
use Rattle.std.proofs.Common.{◌≡◌, ℕ, ◌<◌, Bool, true, false, length, List, Option, Some, None, is_some, option_map, slice_set, refl, sym, ap, subst, ◌∙◌, inl, inr}
use Rattle.std.proofs.lemmas.Bool.{cases_eq}
use Rattle.offset_allocator.specs.{Ranges.Range}
use Rattle.offset_allocator.specs.View.{View}
use Rattle.offset_guarded.specs.Answers as tickets
use Rattle.offset_guarded.specs.Guard.{Guard, Ticket}
use Rattle.offset_guarded.specs.Guard as guarded
use Rattle.offset_guarded.specs.Twins.{IsTwin}
use Rattle.offset_guarded.proofs.Twins.{own_twin, same_twin}
use Rattle.offset_heaps.specs.declared.limits.Limits.{Limits}
use Rattle.offset_heaps.specs.Places.{Place, ticket_of}
use Rattle.offset_heaps.specs.Changing.{Alters, AltersIn, KeepsLive, KeepsSizes}
use Rattle.offset_heaps.specs.Heaps.{Heaps, IsSame, KeepsOthers, Puts, heap_at, range_in, range_of, slot}
use Rattle.offset_heaps.specs.{Slots.Changes, Twins.AreTwins, Twins.IsTwinIn}
use Rattle.offset_heaps.proofs.Numbers.{slot_other, slot_same, slot_set, slot_there}
use Rattle.offset_heaps.proofs.Places.{other_realm, put_keeps, put_others, same_realm, shown}
use Rattle.offset_heaps.proofs.Twins.{twin_some}

module _ (k : ℕ) (P : Guard → Guard → Type 0) (hs ks : Heaps) (change : Changes k (AltersIn P) hs.slots ks.slots)
    (rest : ks ≡ record hs { slots = ks.slots; accesses = ks.accesses }) where
  puts : Puts k change.now hs ks
  puts = rest ∙ ap (λ s. record hs { slots = s; accesses = ks.accesses }) change.slots

  pub altered : Alters k P hs ks
  altered = let by = change.by in record {
    before = by.before;
    after = by.after;
    heap = by.was;
    by = by.by;
    heaps = subst (λ o. Puts k o hs ks) by.is puts;
  }

module _ (k : ℕ) (P : Guard → Guard → Type 0) (hs ks : Heaps) (there : k < length hs.slots) (a : Alters k P hs ks) where
  pub altered_slots : ks.slots ≡ slice_set hs.slots k (Some a.after)
  altered_slots = ap (λ (h : Heaps). h.slots) a.heaps

  pub altered_realm : ks.realm ≡ hs.realm
  altered_realm = ap (λ (h : Heaps). h.realm) a.heaps

  pub now : heap_at k ks ≡ Some a.after
  now = ap (slot k) altered_slots ∙ slot_same hs.slots k (Some a.after) there

  -- what is kept of each ticket is kept of each place
  pub kept_of_places : {A : Type 0} (f : Option Range → A) → ((t : Ticket) → f (guarded.range_of t a.after) ≡ f (guarded.range_of t a.before)) → (p : Place) → f (range_of p ks) ≡ f (range_of p hs)
  kept_of_places f same p = elim (cases_eq p.heap k) [
    | inr n ↦ ap f (put_others hs ks k (Some a.after) altered_slots altered_realm p n)
    | inl here ↦ elim (cases_eq p.realm hs.realm) [
      | inr other ↦ ap f (other_realm p ks (λ e. other (e ∙ altered_realm)) ∙ sym (other_realm p hs other))
      | inl own ↦
          ap f (same_realm p ks (own ∙ sym altered_realm) ∙ ap (λ j. range_in (ticket_of p) (heap_at j ks)) here ∙ ap (range_in (ticket_of p)) now)
          ∙ same (ticket_of p)
          ∙ ap f (sym (same_realm p hs own ∙ ap (λ j. range_in (ticket_of p) (heap_at j hs)) here ∙ ap (range_in (ticket_of p)) a.heap))
    ]
  ]

  -- every later call returns the same for both heaps
  pub alike : IsTwin a.before a.after → AreTwins hs ks
  alike twin = record {
    limits = ap (λ (h : Heaps). h.limits) a.heaps;
    made = ap (λ (h : Heaps). h.made) a.heaps;
    realm = altered_realm;
    heaps = λ j. elim (cases_eq j k) [
      | inl e ↦ rw e (twin_some a.before a.after (heap_at k hs) (heap_at k ks) a.heap now twin)
      | inr d ↦ subst (IsTwinIn (heap_at j hs)) (sym (ap (slot j) altered_slots ∙ slot_other hs.slots k j (Some a.after) d)) (own (heap_at j hs))
    ];
  }
    where
      own : (o : Option Guard) → IsTwinIn o o
      own None = refl
      own (Some g) = (g, refl, own_twin g)

pub sizes_kept : (k : ℕ) (P : Guard → Guard → Type 0) (hs ks : Heaps) → ((g h : Guard) → P g h → guarded.KeepsSizes g h) → Alters k P hs ks → KeepsSizes hs ks
sizes_kept k P hs ks kept a = kept_of_places k P hs ks (slot_there hs.slots k (ap is_some a.heap)) a (option_map (λ (r : Range). r.size)) (kept a.before a.after a.by)

-- every other place has the range that it had
pub others_kept : (p : Place) (P : Guard → Guard → Type 0) (hs ks : Heaps) → p.heap < length hs.slots → (a : Alters p.heap P hs ks) → p.realm ≡ hs.realm
    → guarded.KeepsOthers (ticket_of p) a.before a.after → KeepsOthers p hs ks
others_kept p P hs ks there a own kept = put_keeps hs ks p.heap (Some a.after) (altered_slots p.heap P hs ks there a) (altered_realm p.heap P hs ks there a) there p refl own
    (λ u apart. kept u apart ∙ sym (ap (range_in u) a.heap))

-- the heap of a number is another one now
pub put : (P : Guard → Guard → Type 0) (k : ℕ) (slots : List (Option Guard)) (limits : Limits) (made realm before after : ℕ) (g h : Guard) → slot k slots ≡ Some g → P g h
    → Alters k P (shown slots limits made realm before) (shown (slice_set slots k (Some h)) limits made realm after)
put P k slots limits made realm before after g h was by = record { before = g; after = h; heap = was; by = by; heaps = refl }

-- the heap is as it was
pub unchanged : (k : ℕ) (P : Guard → Guard → Type 0) (hs ks : Heaps) → (a : Alters k P hs ks) → a.after ≡ a.before → IsSame hs ks
unchanged k P hs ks a e =
    let slots : slice_set hs.slots k (Some a.after) ≡ hs.slots = ap (λ (g : Guard). slice_set hs.slots k (Some g)) e ∙ ap (slice_set hs.slots k) (sym a.heap) ∙ slot_set hs.slots k in
    a.heaps ∙ ap (λ s. record hs { slots = s; accesses = ks.accesses }) slots

-- the range of a place of these heaps is freed
module _ (p : Place) (hs ks : Heaps) (own : p.realm ≡ hs.realm) (a : Alters p.heap (λ g h. tickets.Frees (ticket_of p) g h true) hs ks) where
  abbrev Freed : Guard → Guard → Type 0
  Freed g h = tickets.Frees (ticket_of p) g h true

  abbrev there_freed : p.heap < length hs.slots
  there_freed = slot_there hs.slots p.heap (ap is_some a.heap)

  pub freed_gone : range_of p ks ≡ None
  freed_gone = same_realm p ks (own ∙ sym (altered_realm p.heap Freed hs ks there_freed a)) ∙ ap (range_in (ticket_of p)) (now p.heap Freed hs ks there_freed a) ∙ a.by.gone

  pub freed_others : KeepsOthers p hs ks
  freed_others = others_kept p Freed hs ks there_freed a own a.by.others

-- the range of a place of these heaps becomes smaller or larger in place
module _ (p : Place) (n : ℕ) (Can : View → Type 0) (Step : View → View → Bool → Type 0) (hs ks : Heaps) (r : Option Bool) (own : p.realm ≡ hs.realm)
    (a : Alters p.heap (λ g h. tickets.Resizes (ticket_of p) n Can Step g h r) hs ks) where
  abbrev Change : Guard → Guard → Type 0
  Change g h = tickets.Resizes (ticket_of p) n Can Step g h r

  there : p.heap < length hs.slots
  there = slot_there hs.slots p.heap (ap is_some a.heap)

  pub resized_others : KeepsOthers p hs ks
  resized_others = others_kept p Change hs ks there a own a.by.others

  pub resized_kept : KeepsLive hs ks
  resized_kept = kept_of_places p.heap Change hs ks there a is_some a.by.kept

  pub resized_refused : r ≡ Some false → AreTwins hs ks
  resized_refused e = alike p.heap Change hs ks there a (same_twin a.before a.after (a.by.same e))

  pub resized_not : r ≡ None → IsSame hs ks
  resized_not e = unchanged p.heap Change hs ks a (a.by.not_live e)
