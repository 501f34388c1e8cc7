-- Every alignment is kept: by each call, and by one call after the other.
use Rattle.std.proofs.Common.{◌≡◌, ℕ, ◌+◌, ◌<◌, ◌≤◌, Bool, true, false, List, [], ◌∷◌, Option, Some, None, IfSome, IsSome, is_some, length, slice_set, nat_eq, if◌then◌else◌, refl, sym, ap, subst, ◌∙◌, inl, inr, arith}
use Rattle.std.proofs.Math.Nat.{dvd_trans}
use Rattle.std.proofs.lemmas.Bool.{cases_eq}
use Rattle.std.specs.Int.{◌∣◌}
use Rattle.std.specs.List.{AllByRecursion}
use Rattle.offset_allocator.specs.Ranges.{Range}
use Rattle.offset_allocator.specs.Requests.{blocks_needed}
use Rattle.offset_guarded.specs.Answers as tickets
use Rattle.offset_guarded.specs.Guard.{Guard, Ticket, AreAlike, serial_of}
use Rattle.offset_guarded.specs.Guard as guarded
use Rattle.offset_guarded.proofs.Guards.{live_fits}
use Rattle.offset_guarded.proofs.Offsets.{same_aligned}
use Rattle.offset_guarded.proofs.Continued.{alike_range}
use Rattle.offset_heaps.specs.declared.limits.Limits.{Limits}
use Rattle.offset_heaps.specs.declared.place.Granted.{Granted}
use Rattle.offset_heaps.specs.Changing.{Alters, CompactsAll, CompactsSlot}
use Rattle.offset_heaps.specs.Heaps.{Heaps, GrantsBy, IsSame, KeepsAlignments, heap_at, part, range_in, range_of, slot, step_of, ticket_in}
use Rattle.offset_guarded.specs.Calls.{Continues}
use Rattle.offset_heaps.specs.Histories.{AreSteps, BeginsAt, ContinuesIn, IsStep}
use Rattle.offset_heaps.specs.Places.{Place, place_of, ticket_of}
use Rattle.offset_heaps.specs.State as state
use Rattle.offset_heaps.proofs.{Grants.granted, Grants.now, Grants.step_joined, Numbers.slot_other, Numbers.slot_same, Numbers.slot_there, Raising.raised_realm}

-- ---- what is kept in the heap of a number
abbrev SlotKeeps : Option Guard → Option Guard → Type 0
SlotKeeps o new = (t : Ticket) (r q : Range) (a : ℕ) → range_in t o ≡ Some r → range_in t new ≡ Some q → a ∣ part step_of o → a ∣ r.offset → (a ∣ part step_of new) × (a ∣ q.offset)

to_none : (o : Option Guard) → SlotKeeps o None
to_none o t r q a e f d p = absurd (cc)

from_none : (new : Option Guard) → SlotKeeps None new
from_none new t r q a e f d p = absurd (cc)

of_guards : (g h : Guard) → guarded.KeepsAlignments g h → SlotKeeps (Some g) (Some h)
of_guards g h kept t r q a e f d p = kept t r q a e f d p

same_slot : (o : Option Guard) → SlotKeeps o o
same_slot None = from_none None
same_slot (Some g) = of_guards g g (same_aligned g)

-- one number has another heap
put_slots : (k : ℕ) (slots : List (Option Guard)) (o : Option Guard) → k < length slots → SlotKeeps (slot k slots) o → (j : ℕ) → SlotKeeps (slot j slots) (slot j (slice_set slots k o))
put_slots k slots o there kept j = elim (cases_eq j k) [
  | inl e ↦ rw (e, slot_same slots k o there) kept
  | inr d ↦ rw (slot_other slots k j o d) (same_slot (slot j slots))
]

in_slot : (p : Place) (hs : Heaps) (r : Range) → range_of p hs ≡ Some r → range_in (ticket_of p) (heap_at p.heap hs) ≡ Some r
in_slot p hs r e = go (nat_eq p.realm hs.realm) e
  where
    go : (b : Bool) → (if b then range_in (ticket_of p) (heap_at p.heap hs) else None) ≡ Some r → range_in (ticket_of p) (heap_at p.heap hs) ≡ Some r
    go true e = e
    go false e = absurd (cc)

slots_keep : (hs ks : Heaps) → ((k : ℕ) → SlotKeeps (heap_at k hs) (heap_at k ks)) → KeepsAlignments hs ks
slots_keep hs ks each p r q a e f d o = each p.heap (ticket_of p) r q a (in_slot p hs r e) (in_slot p ks q f) d o

-- with these slots
now_keep : (hs ks : Heaps) (slots : List (Option Guard)) → ks.slots ≡ slots → ((j : ℕ) → SlotKeeps (slot j hs.slots) (slot j slots)) → KeepsAlignments hs ks
now_keep hs ks slots e each = slots_keep hs ks (λ j. subst (λ s. SlotKeeps (slot j hs.slots) (slot j s)) (sym e) (each j))

-- a heap is changed in place
pub alters_keep : (k : ℕ) (P : Guard → Guard → Type 0) (hs ks : Heaps) → ((g h : Guard) → P g h → guarded.KeepsAlignments g h) → Alters k P hs ks → KeepsAlignments hs ks
alters_keep k P hs ks kept a = now_keep hs ks (slice_set hs.slots k (Some a.after)) (ap (λ (h : Heaps). h.slots) a.heaps)
    (put_slots k hs.slots (Some a.after) (slot_there hs.slots k (ap is_some a.heap)) (subst (λ o. SlotKeeps o (Some a.after)) (sym a.heap) (of_guards a.before a.after (kept a.before a.after a.by))))

compacts_slot : (o new : Option Guard) → CompactsSlot o new → SlotKeeps o new
compacts_slot None new e = from_none new
compacts_slot (Some g) new r = subst (SlotKeeps (Some g)) (sym r.1) (of_guards g r.0 r.2.aligned)

pub compacts_keep : (hs ks : Heaps) → CompactsAll hs ks → KeepsAlignments hs ks
compacts_keep hs ks all = slots_keep hs ks (λ k. compacts_slot (heap_at k hs) (heap_at k ks) (all.heaps k))

-- all is as it was
pub same_keeps : (hs ks : Heaps) → IsSame hs ks → KeepsAlignments hs ks
same_keeps hs ks same = now_keep hs ks hs.slots (ap (λ (h : Heaps). h.slots) same) (λ j. same_slot (slot j hs.slots))

-- whatever one call leaves
in_slots : (made : ℕ) (o new : Option Guard) → ContinuesIn made o new → SlotKeeps o new
in_slots made o None c = to_none o
in_slots made None (Some h) c = from_none (Some h)
in_slots made (Some g) (Some h) c = of_guards g h c.aligned

pub step_keeps : (hs ks : Heaps) → IsStep hs ks → KeepsAlignments hs ks
step_keeps hs ks s = slots_keep hs ks (λ k. in_slots hs.made (heap_at k hs) (heap_at k ks) (s.heaps k))

-- ---- one call after the other
-- the place was granted, so that no later grant has its serial; and its range begins at a multiple of a number that divides
-- the step of its heap
abbrev KeptIn : ℕ → Place → Option Guard → Type 0
KeptIn a p o = IfSome o (λ g. p.heap_realm ≡ g.realm → (p.serial ≤ g.given) × ((r : Range) → guarded.range_of (ticket_of p) g ≡ Some r → (a ∣ r.offset) × (a ∣ g.step)))

record IsKept (a : ℕ) (p : Place) (hs : Heaps) : Type 0 where
  made : p.heap_realm ≤ hs.made
  slot : KeptIn a p (heap_at p.heap hs)

the_some : (o : Option Range) → IsSome o → (r : Range) × (o ≡ Some r)
the_some None l = absurd (cc)
the_some (Some r) l = (r, refl)

-- no ticket of an earlier grant becomes live
kept_in : (a : ℕ) (p : Place) (g h : Guard) → Continues g h → KeptIn a p (Some g) → KeptIn a p (Some h)
kept_in a p g h c kept own =
    let was = kept (own ∙ c.realm) in
    let t : Ticket = ticket_of p in (
      omega (arith, was.0, c.given),
      λ q f.
          let r = the_some (guarded.range_of t g) (c.live t was.0 (subst IsSome (sym f) refl)) in
          let d = was.1 r.0 r.1 in
          let now = c.aligned t r.0 q a r.1 f d.1 d.0 in
          (now.1, now.0),
    )

stays_kept : (a : ℕ) (p : Place) (hs ks : Heaps) → IsStep hs ks → IsKept a p hs → IsKept a p ks
stays_kept a p hs ks s kept = record {
  made = let l = kept.made in let m = s.made in omega (arith, l, m);
  slot = go (heap_at p.heap hs) (heap_at p.heap ks) (s.heaps p.heap) kept.slot;
}
  where
    -- a new heap has another realm
    go : (o new : Option Guard) → ContinuesIn hs.made o new → KeptIn a p o → KeptIn a p new
    go o None c k = tt
    go None (Some h) later k = λ own. absurd (let l = kept.made in omega (arith, later, own, l))
    go (Some g) (Some h) c k = kept_in a p g h c k

begins : (a : ℕ) (p : Place) (hs : Heaps) → IsKept a p hs → BeginsAt a p hs
begins a p hs kept = go (range_of p hs) refl
  where
    found : (o : Option Guard) (r : Range) → KeptIn a p o → range_in (ticket_of p) o ≡ Some r → a ∣ r.offset
    found None r k e = absurd (cc)
    found (Some g) r k e = ((k (live_fits (ticket_of p) g (subst IsSome (sym e) refl)).0).1 r e).0

    go : (o : Option Range) → range_of p hs ≡ o → IfSome o (λ r. a ∣ r.offset)
    go None e = tt
    go (Some r) e = found (heap_at p.heap hs) r kept.slot (in_slot p hs r e)

all_begin : (a : ℕ) (p : Place) (hs : Heaps) (later : List Heaps) → IsKept a p hs → AreSteps hs later → AllByRecursion (BeginsAt a p) (hs ∷ later)
all_begin a p hs [] kept steps = (begins a p hs kept, tt)
all_begin a p hs (ks ∷ later) kept steps = (begins a p hs kept, all_begin a p ks later (stays_kept a p hs ks steps.0 kept) steps.1)

-- ---- the first call
-- what a grant leaves of its own place
own_kept : (a n align : ℕ) (p : Place) (g h : Guard) (t : Ticket) → guarded.Grants n g h t → t.name ≡ p.name → t.serial ≡ p.serial → t.realm ≡ p.heap_realm → a ∣ h.step → a ∣ t.offset → KeptIn a p (Some h)
own_kept a n align p g h t s name serial realm divides begins own = (
  omega (arith, s.given, serial),
  λ r e.
      let same : guarded.range_of t h ≡ guarded.range_of (ticket_of p) h = alike_range t (ticket_of p) h (name, serial, realm) in
      let both : Some (let q : Range = record { offset = t.offset; size = n } in q) ≡ Some r = sym s.range ∙ same ∙ e in
      let one : (let q : Range = record { offset = t.offset; size = n } in q) ≡ r = cc in
      (subst (λ (q : Range). a ∣ q.offset) one begins, divides),
)

realm_made : (limits : Limits) (made k : ℕ) (o : Option Guard) (g : Guard) → o ≡ Some g → state.IsHeapFormed limits made k o → g.realm ≤ made
realm_made limits made k o g e formed = (subst (state.IsHeapFormed limits made k) e formed).1

pub lasts : (Call : Ticket → Guard → Guard → Type 0) (size align : ℕ) → ((t : Ticket) (g h : Guard) → Call t g h → tickets.Requests size g h (Some t)) → ((t : Ticket) (g h : Guard) → Call t g h → tickets.Aligns align g h (Some t))
    → (a : ℕ) (grant : Granted) (hs ks : Heaps) (later : List Heaps) → state.IsWellFormed hs → GrantsBy Call size align hs ks grant → a ∣ align → a ∣ grant.offset → AreSteps ks later
    → AllByRecursion (BeginsAt a grant.place) (ks ∷ later)
lasts Call size align asks aligns a grant hs ks later formed g divides begins steps = all_begin a grant.place ks later (record {
  made = subst (λ n. grant.place.heap_realm ≤ n) (sym (ap (λ (h : Heaps). h.made) g.heaps)) made;
  slot = subst (KeptIn a grant.place) (sym (now Call size align asks hs ks grant g))
      (own_kept a size align grant.place (granted Call size align asks hs ks grant g).0 g.after (ticket_in grant) (granted Call size align asks hs ks grant g).1 refl refl refl
      (dvd_trans a divides (step_joined Call size align asks hs ks grant g aligns)) begins);
}) steps
  where
    old_made : (b : Bool) → grant.place.heap_realm ≤ hs.made → grant.place.heap_realm ≤ (if b then hs.made + 1 else hs.made)
    old_made true l = omega (arith, l)
    old_made false l = l

    new_made : (b : Bool) → b ≡ true → grant.place.heap_realm ≡ hs.made + 1 → grant.place.heap_realm ≤ (if b then hs.made + 1 else hs.made)
    new_made true e l = omega (arith, l)
    new_made false e l = absurd (cc)

    made : grant.place.heap_realm ≤ (if grant.is_new then hs.made + 1 else hs.made)
    made = elim g.step [
      | inl old ↦
          let s = old.1 in
          old_made grant.is_new (omega (
            arith,
            (asks (ticket_in grant) s.before g.after s.by).grants.realm.0,
            raised_realm hs.limits grant.place.heap (blocks_needed align) s.was s.before s.raised,
            realm_made hs.limits hs.made grant.place.heap (heap_at grant.place.heap hs) s.was s.heap (formed.heaps grant.place.heap),
          ))
      | inr new ↦ new_made grant.is_new new.0 (elim new.2 [
        | inl usual ↦ omega (arith, usual.1.new.realm, usual.1.by.1.request.grants.realm.0)
        | inr larger ↦ omega (arith, larger.1.new.realm, larger.1.by.1.request.grants.realm.0)
      ])
    ]

-- of a grant in the heap of a number
pub lasts_in : (k n align a : ℕ) (t : Ticket) (P : Guard → Guard → Type 0) (hs ks : Heaps) (later : List Heaps) → state.IsWellFormed hs → ((g h : Guard) → P g h → guarded.Grants n g h t × (align ∣ h.step))
    → Alters k P hs ks → a ∣ align → a ∣ t.offset → AreSteps ks later → AllByRecursion (BeginsAt a (place_of k hs.realm t)) (ks ∷ later)
lasts_in k n align a t P hs ks later formed by f divides begins steps =
    let grants = by f.before f.after f.by in
    let p : Place = place_of k hs.realm t in
    all_begin a p ks later (record {
      made = omega (arith, grants.0.realm.0, realm_made hs.limits hs.made k (heap_at k hs) f.before f.heap (formed.heaps k), ap (λ (h : Heaps). h.made) f.heaps);
      slot = subst (KeptIn a p) (sym (ap (slot k) (ap (λ (h : Heaps). h.slots) f.heaps) ∙ slot_same hs.slots k (Some f.after) (slot_there hs.slots k (ap is_some f.heap))))
          (own_kept a n align p f.before f.after t grants.0 refl refl refl (dvd_trans a divides grants.1) begins);
    }) steps
