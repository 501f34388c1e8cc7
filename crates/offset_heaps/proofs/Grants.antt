-- Grants: of a heap that was there, and of a new one.
use Rattle.std.proofs.Common.{◌≡◌, ℕ, ◌+◌, ◌<◌, true, false, Result, Ok, Err, IfOk, length, List, Option, Some, None, slice_set, nat_eq, refl, sym, ap, ◌∙◌, subst, inl, inr, arith, if◌then◌else◌}
use Rattle.std.specs.Int.{◌∣◌}
use Rattle.offset_allocator.specs.Requests.{blocks_needed, units_needed}
use Rattle.offset_guarded.specs.Answers as tickets
use Rattle.offset_guarded.specs.Guard.{Guard, Ticket}
use Rattle.offset_guarded.specs.Guard as guarded
use Rattle.offset_heaps.specs.Changing.{AltersIn}
use Rattle.offset_heaps.specs.declared.limits.Limits.{Limits}
use Rattle.offset_heaps.specs.declared.place.Granted.{Granted}
use Rattle.offset_heaps.specs.declared.refusal.Refusal.{Refusal}
use Rattle.offset_heaps.specs.Heaps.{Heaps, Adds, GrantsBy, GrantsNew, IsNext, IsSame, IsSpareLarger, IsSpareUsual, IsUsual, KeepsOthers, IsRaisedAsNeeded, MustRaiseIn, heap_at, larger_limit, last_realm, range_in, range_of, slot, ticket_in, usual_size}
use Rattle.offset_heaps.specs.Places.{Place, place_of, ticket_of}
use Rattle.offset_heaps.specs.Slots.{Changes, RaisesIn}
use Rattle.offset_heaps.proofs.{Raising.must_in, Raising.raised_range, Raising.set_twice, Numbers.slot_same, Places.none_if, Places.put_keeps, Places.same_realm, Places.shown, Rooms.fresh_none, Rooms.some_same}

-- a grant at a number
abbrev pub grant_at : ℕ → ℕ → Ticket → Granted
grant_at number realm ticket = record { place = place_of number realm ticket; offset = ticket.offset; is_new = false }

-- a heap that was raised as needed, and need not be raised again, is one that was there
raised_once : (limits : Limits) (number blocks : ℕ) (o now : Option Guard) → RaisesIn limits number blocks o now → (g h : Guard) → now ≡ Some g → IsRaisedAsNeeded limits number blocks g h → (MustRaiseIn limits number blocks now → ⊥)
    → (b : Guard) × (o ≡ Some b) × IsRaisedAsNeeded limits number blocks b h
raised_once limits number blocks None now raises g h e raised stays = absurd (let none = sym raises ∙ e in cc)
raised_once limits number blocks (Some b) now raises g h e (inl up) stays = absurd (stays (must_in limits number blocks now g e up.0))
raised_once limits number blocks (Some b) now raises g h e (inr kept) stays =
    let same : raises.0 ≡ g = some_same raises.0 g (sym raises.1 ∙ e) in
    (b, refl, subst (IsRaisedAsNeeded limits number blocks b) (same ∙ sym kept.1) raises.2)

-- a grant is one with another step too
restepped : (n : ℕ) (g m h : Guard) (t : Ticket) → guarded.Grants n g m t → h ≡ record m { step = h.step } → guarded.Grants n g h t
restepped n g m h t s e = subst (λ (z : Guard). guarded.Grants n g z t) (sym e)
    (record { serial = s.serial; given = s.given; realm = s.realm; serials = s.serials; not_live = s.not_live; range = s.range; space = s.space; others = s.others })

-- what a call of tickets grants in a heap that was there
module _ (Call : Ticket → Guard → Guard → Type 0) (size align : ℕ) where
  pub granted_at : (slots now : List (Option Guard)) (limits : Limits) (made realm before after number : ℕ) (ticket : Ticket) → number < length slots
      → (MustRaiseIn limits number (blocks_needed align) (slot number slots) → ⊥) → Changes number (AltersIn (Call ticket)) slots now
      → GrantsBy Call size align (shown slots limits made realm before) (shown now limits made realm after) (grant_at number realm ticket)
  granted_at slots now limits made realm before after number ticket there stays change =
      let by = change.by in
      record {
        after = by.after;
        step = inl (refl, record { was = by.before; before = by.before; heap = by.was; raised = inr (λ must. stays (must_in limits number (blocks_needed align) (slot number slots) by.before by.was must), refl); by = by.by });
        realm = refl;
        number = there;
        heaps = ap (λ s. shown s limits made realm after) (change.slots ∙ ap (slice_set slots number) by.is);
      }

  -- in a heap that was raised before
  pub granted_raised : (hs between ks : Heaps) (number : ℕ) (grant : Granted) → number < length hs.slots → Changes number (RaisesIn hs.limits number (blocks_needed align)) hs.slots between.slots
      → between ≡ record hs { slots = between.slots; accesses = between.accesses } → (MustRaiseIn hs.limits number (blocks_needed align) (slot number between.slots) → ⊥) → grant.is_new ≡ false
      → grant.place.heap ≡ number → GrantsBy Call size align between ks grant → GrantsBy Call size align hs ks grant
  granted_raised hs between ks number grant there change rest none old at given =
      let g : GrantsBy Call size align (record hs { slots = between.slots; accesses = between.accesses }) ks grant = subst (λ (h : Heaps). GrantsBy Call size align h ks grant) rest given in
      let found : slot number between.slots ≡ change.now = ap (slot number) change.slots ∙ slot_same hs.slots number change.now there in
      let again : slice_set between.slots grant.place.heap (Some g.after) ≡ slice_set hs.slots grant.place.heap (Some g.after) =
      ap (λ (s : List (Option Guard)). slice_set s grant.place.heap (Some g.after)) (change.slots ∙ ap (λ k. slice_set hs.slots k change.now) (sym at))
      ∙ set_twice hs.slots grant.place.heap change.now (Some g.after) in
      record {
        after = g.after;
        step = elim g.step [
          | inr new ↦ absurd (let e = sym old ∙ new.0 in cc)
          | inl is ↦
              let s = is.1 in
              let e : change.now ≡ Some s.was = sym found ∙ ap (λ k. slot k between.slots) (sym at) ∙ s.heap in
              let w = raised_once hs.limits number (blocks_needed align) (slot number hs.slots) change.now change.by s.was s.before e (subst (λ k. IsRaisedAsNeeded hs.limits k (blocks_needed align) s.was s.before) at s.raised)
              (λ must. none (subst (MustRaiseIn hs.limits number (blocks_needed align)) (sym found) must)) in
              inl (is.0, record { was = w.0; before = s.before; heap = ap (λ k. slot k hs.slots) at ∙ w.1; raised = subst (λ k. IsRaisedAsNeeded hs.limits k (blocks_needed align) w.0 s.before) (sym at) w.2; by = s.by })
        ];
        realm = g.realm;
        number = subst (λ k. k < length hs.slots) (sym at) there;
        heaps = g.heaps ∙ ap (λ (s : List (Option Guard)). record hs { slots = s; made = (if grant.is_new then hs.made + 1 else hs.made); accesses = ks.accesses }) again;
      }

  -- a count of accesses changes nothing of a grant
  pub granted_since : (hs ks ls : Heaps) (grant : Granted) → IsSame hs ks → GrantsBy Call size align ks ls grant → GrantsBy Call size align hs ls grant
  granted_since hs ks ls grant same g =
      let h : GrantsBy Call size align (record hs { accesses = ks.accesses }) ls grant = subst (λ (k : Heaps). GrantsBy Call size align k ls grant) same g in
      record { after = h.after; step = h.step; realm = h.realm; number = h.number; heaps = h.heaps }

  pub granted_if_since : (hs ks ls : Heaps) (r : Result Granted Refusal) → IsSame hs ks → IfOk r (GrantsBy Call size align ks ls) → IfOk r (GrantsBy Call size align hs ls)
  granted_if_since hs ks ls (Ok grant) same g = granted_since hs ks ls grant same g
  granted_if_since hs ks ls (Err why) same g = g

  -- a grant of a new heap is one whatever a heap that was there grants
  pub granted_new : (Other : Ticket → Guard → Guard → Type 0) (hs ks : Heaps) (grant : Granted) → grant.is_new ≡ true → GrantsBy Other size align hs ks grant → GrantsBy Call size align hs ks grant
  granted_new Other hs ks grant new g = record {
    after = g.after;
    step = elim g.step [ inl old ↦ absurd (let e = sym new ∙ old.0 in cc) | inr made ↦ inr made ];
    realm = g.realm;
    number = g.number;
    heaps = g.heaps;
  }

  module _ (hs ks : Heaps) (number : ℕ) (o : Option Guard) (h : Guard) (ticket : Ticket) (there : number < length hs.slots) (adds : Adds number o hs ks) (is : o ≡ Some h) where
    abbrev grant : Granted
    grant = record { place = place_of number hs.realm ticket; offset = ticket.offset; is_new = true }

    pub granted_usual : IsSpareUsual size number hs → IsUsual size hs
        → GrantsNew (λ g h. tickets.AllocatesAligned size 1 g h (Some ticket)) (usual_size hs.limits number) hs.limits.first_allocs (hs.made + 1) align h → GrantsBy Call size align hs ks grant
    granted_usual spare usual by = record { after = h; step = inr (refl, spare.1, inl (usual, by)); realm = refl; number = there; heaps = subst (λ o. Adds number o hs ks) is adds }

    pub granted_larger : IsSpareLarger number hs → (IsUsual size hs → ⊥) → GrantsNew (λ g h. tickets.AllocatesTight size g h (Some ticket)) size larger_limit (hs.made + 1) align h → GrantsBy Call size align hs ks grant
    granted_larger spare unusual by = record { after = h; step = inr (refl, spare.2, inr (unusual, by)); realm = refl; number = there; heaps = subst (λ o. Adds number o hs ks) is adds }

  -- ---- what a grant leaves, by a call that is a request
  module _ (asks : (t : Ticket) (g h : Guard) → Call t g h → tickets.Requests size g h (Some t)) (hs ks : Heaps) (grant : Granted) (g : GrantsBy Call size align hs ks grant) where
    abbrev p : Place
    p = grant.place

    -- it is one of tickets, in a heap with the ranges that there were
    abbrev IsGrant : Type 0
    IsGrant = (b : Guard) × guarded.Grants size b g.after (ticket_in grant) × ((u : Ticket) → guarded.range_of u b ≡ range_in u (heap_at p.heap hs))

    made : (New : Guard → Guard → Type 0) (n limit realm : ℕ) → ((g h : Guard) → New g h → tickets.Requests size g h (Some (ticket_in grant))) → heap_at p.heap hs ≡ None → GrantsNew New n limit realm align g.after → IsGrant
    made New n limit realm asked none s = (
      s.before,
      restepped size s.before s.by.0 g.after (ticket_in grant) (asked s.before s.by.0 s.by.1).grants s.by.2.rest,
      λ u. fresh_none n limit realm s.before u s.new ∙ sym (ap (range_in u) none),
    )

    pub granted : IsGrant
    granted = elim g.step [
      | inl old ↦
          let s = old.1 in
          (s.before, (asks (ticket_in grant) s.before g.after s.by).grants, λ u. raised_range hs.limits p.heap (blocks_needed align) u s.was s.before s.raised ∙ sym (ap (range_in u) s.heap))
      | inr new ↦ elim new.2 [
        | inl usual ↦ made (λ g h. tickets.AllocatesAligned size 1 g h (Some (ticket_in grant))) (usual_size hs.limits p.heap) hs.limits.first_allocs (hs.made + 1) (λ g h a. a.request) new.1 usual.1
        | inr larger ↦ made (λ g h. tickets.AllocatesTight size g h (Some (ticket_in grant))) size larger_limit (hs.made + 1) (λ g h a. a.request) new.1 larger.1
      ]
    ]

    slots : ks.slots ≡ slice_set hs.slots p.heap (Some g.after)
    slots = ap (λ (h : Heaps). h.slots) g.heaps

    realms : ks.realm ≡ hs.realm
    realms = ap (λ (h : Heaps). h.realm) g.heaps

    pub now : heap_at p.heap ks ≡ Some g.after
    now = ap (slot p.heap) slots ∙ slot_same hs.slots p.heap (Some g.after) g.number

    pub range_granted : range_of p ks ≡ Some (record { offset = grant.offset; size = size })
    range_granted = same_realm p ks (g.realm ∙ sym realms) ∙ ap (range_in (ticket_of p)) now ∙ granted.1.range

    pub not_live_before : range_of p hs ≡ None
    not_live_before = none_if (nat_eq p.realm hs.realm) (range_in (ticket_of p) (heap_at p.heap hs)) (sym (granted.2 (ticket_of p)) ∙ granted.1.not_live)

    pub others_kept : KeepsOthers p hs ks
    others_kept = put_keeps hs ks p.heap (Some g.after) slots realms g.number p refl g.realm (λ u apart. granted.1.others u apart ∙ granted.2 u)

    -- the step of its heap takes the alignment in
    pub step_joined : ((t : Ticket) (g h : Guard) → Call t g h → tickets.Aligns align g h (Some t)) → align ∣ g.after.step
    step_joined aligns = elim g.step [
      | inl old ↦ (aligns (ticket_in grant) old.1.before g.after old.1.by).joined.second
      | inr new ↦ elim new.2 [ inl usual ↦ usual.1.by.2.joined.second | inr larger ↦ larger.1.by.2.joined.second ]
    ]

-- of a result
module _ (Call : Ticket → Guard → Guard → Type 0) (size align : ℕ) (asks : (t : Ticket) (g h : Guard) → Call t g h → tickets.Requests size g h (Some t)) (hs ks : Heaps) where
  pub not_live_if : (r : Result Granted Refusal) → IfOk r (GrantsBy Call size align hs ks) → IfOk r (λ g. range_of g.place hs ≡ None)
  not_live_if (Ok grant) g = not_live_before Call size align asks hs ks grant g
  not_live_if (Err why) g = tt

  pub range_if : (r : Result Granted Refusal) → IfOk r (GrantsBy Call size align hs ks) → IfOk r (λ g. range_of g.place ks ≡ Some (record { offset = g.offset; size = size }))
  range_if (Ok grant) g = range_granted Call size align asks hs ks grant g
  range_if (Err why) g = tt

  pub others_if : (r : Result Granted Refusal) → IfOk r (GrantsBy Call size align hs ks) → IfOk r (λ g. KeepsOthers g.place hs ks)
  others_if (Ok grant) g = others_kept Call size align asks hs ks grant g
  others_if (Err why) g = tt

-- the number of a new heap is the next one
pub next_made : (units k : ℕ) (hs ks : Heaps) (r : Result Granted Refusal) → IsSame hs ks → (hs.made < last_realm → IsNext units k hs)
    → IfOk r (λ g. (g.is_new ≡ true) × (g.place.heap ≡ k) × (ks.made < last_realm)) → IfOk r (λ g. (g.is_new ≡ true) × IsNext units g.place.heap hs)
next_made units k hs ks (Ok g) same next made =
    (made.0, subst (λ n. IsNext units n hs) (sym made.1) (next (subst (λ n. n < last_realm) (ap (λ (h : Heaps). h.made) same) made.2)))
next_made units k hs ks (Err why) same next made = made

-- with no alignment the units needed are those of the request
pub plain : (size : ℕ) → units_needed size 1 ≡ size
plain size = omega arith
