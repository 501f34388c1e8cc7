-- What each call leaves of a heap is what calls of tickets make of it.
use Rattle.std.proofs.Common.{◌≡◌, ℕ, ◌+◌, ◌<◌, ◌≤◌, ◌⊎◌, Bool, true, false, List, [], ◌∷◌, ◌++◌, Option, Some, None, IfSome, is_some, Result, Ok, Err, length, slice_set, if◌then◌else◌, refl, sym, ap, subst, ◌∙◌, inl, inr, arith}
use Rattle.std.proofs.lemmas.Bool.{cases_Bool, cases_eq, cases_lt}
use Rattle.std.specs.List.{AllByRecursion}
use Rattle.std.specs.declared.alloc.AllocError.{AllocError}
use Rattle.offset_allocator.specs.{Moving.BySteps.moves_by, Moving.Compacting.Move, Relations.IsFresh, Requests.blocks_needed, View.IsWellFormed, View.View}
use Rattle.offset_allocator.proofs.{Raised.under, Raised.well_under, Sound.well_counted, Views.ViewTaken.well_alone}
use Rattle.offset_guarded.specs.Answers as tickets
use Rattle.offset_guarded.specs.Answers.{GoesByTheStep, IsAdmitted, Notes}
use Rattle.offset_guarded.specs.Calls.{Continues, Event, Happens}
use Rattle.offset_guarded.specs.Calls.Event.{Called, Raised}
use Rattle.offset_guarded.specs.Guard.{Guard, Ticket}
use Rattle.offset_guarded.specs.Guard as guarded
use Rattle.offset_guarded.proofs.{Continued.happened, Divisors.divisor_of_some, Noted.notes_all, Offsets.same_aligned}
use Rattle.offset_heaps.specs.declared.limits.Limits.{Limits}
use Rattle.offset_heaps.specs.declared.place.Granted.{Granted}
use Rattle.offset_heaps.specs.declared.refusal.Refusal.{Refusal}
use Rattle.offset_heaps.specs.Calls as calls
use Rattle.offset_heaps.specs.Calls.{Call, Reply, Allocate, Allocate_tight, Free, Relocate, Relocate_aligned, Drop_empty, Drop_heap, Give_up, Reset, Shrink, Grow_in_place, Extend_heap, Compact_heap, Compact_all, Make_room, Retract_heap, On_heap, TakesOn, TakesWhere, TakesAt, TakesAll, Takes}
use Rattle.offset_heaps.specs.Changing.{Alters, CompactsSlot, RetractsTo, can_compact}
use Rattle.offset_heaps.specs.Extending.{ExtendsHeap, ExtendsIf, MustExtend}
use Rattle.offset_heaps.specs.Heaps.{Heaps, GrantsBy, GrantsNew, IsRaisedWhere, IsSame, MustRaise, Puts, heap_at, larger_limit, range_of, raised_limit, slot, step_at, ticket_in, usual_size}
use Rattle.offset_heaps.specs.Histories.{ContinuesIn, IsStep}
use Rattle.offset_heaps.specs.Places.{Place, ticket_of}
use Rattle.offset_heaps.specs.Relocating.{size_of}
use Rattle.offset_heaps.specs.Slots.{ResetsIn}
use Rattle.offset_heaps.specs.Spaces.{AreFormed, DoesAll, GoesByTheSteps, GoesOn, IsSpace, IsValid}
use Rattle.offset_heaps.proofs.Numbers.{slot_other, slot_past, slot_same, slot_set, slot_there}

-- ---- what becomes of one heap
-- calls of tickets, or a raised limit, that go by the step: what they leave continues what there was
abbrev Turns : Guard → Guard → Type 0
Turns g h = Continues g h × ((es : List Event) × (d : DoesAll g es h) × AreFormed g es h d)

turn : (c : tickets.Call) (a : tickets.Answer) (ms : List Move) (g h : Guard) → IsAdmitted c → GoesByTheStep c g → tickets.Answers c g h a ms → Turns g h
turn c a ms g h some goes by = (happened (Called c a ms) g h (goes, by), (Called c a ms ∷ [], (h, (some, by), refl), ((λ v w. w), tt)))

stays : (g h : Guard) → h ≡ g → Turns g h
stays g h e = subst (Turns g) (sym e) (record { realm = refl; given = omega arith; live = λ t early live. live; aligned = same_aligned g }, ([], refl, tt))

-- limits that are raised first
raised_formed : (limit : ℕ) (g b : Guard) → g.space.max_allocs ≤ limit → guarded.IsRaised limit g b → IsWellFormed g.space → IsWellFormed b.space
raised_formed limit g b most raised formed = subst (λ (z : Guard). IsWellFormed z.space) (sym raised) (well_counted (under limit g.space) 0 (well_under g.space limit most formed))

raised_first : (limit : ℕ) (g b h : Guard) → guarded.IsRaised limit g b → Continues b h → Continues g h
raised_first limit g b h e c =
    let d : Continues (record g { space = record g.space { max_allocs = limit; accesses = 0 } }) h = subst (λ (z : Guard). Continues z h) e c in
    record { realm = d.realm; given = d.given; live = d.live; aligned = d.aligned }

after_raise : (Must : Guard → Type 0) (limits : Limits) (may : (g : Guard) → Must g → g.space.max_allocs < limits.max_allocs) (g b h : Guard) → IsRaisedWhere Must limits g b → Turns b h → Turns g h
after_raise Must limits may g b h (inl up) t = (raised_first (raised_limit limits g) g b h up.1 t.0, (Raised (raised_limit limits g) ∷ t.1.0, (b, (omega (arith, may g up.0), up.1), t.1.1), ((λ v w. raised_formed (raised_limit limits g) g b (omega (arith, may g up.0)) up.1 v), t.1.2)))
after_raise Must limits may g b h (inr kept) t = subst (λ (z : Guard). Turns z h) kept.1 t

-- ---- and of the heap of a number
abbrev IsNewSpace : Guard → Type 0
IsNewSpace h = (is : IsSpace h) × (IsWellFormed h.space → IsWellFormed is.fresh.space) × AreFormed is.fresh is.events h is.done

abbrev Evolves : ℕ → Option Guard → Option Guard → Type 0
Evolves made old None = Unit {0}
Evolves made None (Some h) = IsNewSpace h × (made < h.realm)
Evolves made (Some g) (Some h) = Turns g h

turned : (made k : ℕ) (hs : Heaps) (g h : Guard) → heap_at k hs ≡ Some g → Turns g h → Evolves made (heap_at k hs) (Some h)
turned made k hs g h at t = subst (λ o. Evolves made o (Some h)) (sym at) t

same_evolves : (made : ℕ) (o : Option Guard) → Evolves made o o
same_evolves made None = tt
same_evolves made (Some g) = stays g g refl

record Evolve (hs ks : Heaps) : Type 0 where
  realm : ks.realm ≡ hs.realm
  made : hs.made ≤ ks.made
  heaps : (k : ℕ) → Evolves hs.made (heap_at k hs) (heap_at k ks)

-- ---- grants
-- the size and the limit of a space stay
abbrev IsAsLarge : View → View → Type 0
IsAsLarge v w = (w.size ≡ v.size) × (w.max_allocs ≡ v.max_allocs)

aligned_large : (n align : ℕ) (t : Ticket) (g h : Guard) → tickets.AllocatesAligned n align g h (Some t) → IsAsLarge g.space h.space
aligned_large n align t g h a = let s = a.step (a.can_grant.0 refl).0 in (ap (λ (z : View). z.size) s.1.view, ap (λ (z : View). z.max_allocs) s.1.view)

tight_large : (n : ℕ) (t : Ticket) (g h : Guard) → tickets.AllocatesTight n g h (Some t) → IsAsLarge g.space h.space
tight_large n t g h a = elim (a.step (a.can_hold.0 refl).0) [
  | inl s ↦ (ap (λ (z : View). z.size) s.1.view, ap (λ (z : View). z.max_allocs) s.1.view)
  | inr f ↦ let s = f.1.1.3 in (ap (λ (z : View). z.size) s.view, ap (λ (z : View). z.max_allocs) s.view)
]

-- so a fresh one was well formed
fresh_formed : (size limit : ℕ) (v w : View) → IsFresh size limit v → IsAsLarge v w → IsWellFormed w → IsWellFormed v
fresh_formed size limit v w f same formed =
    let n = ap (λ (z : View). z.size) f.view in
    let m = ap (λ (z : View). z.max_allocs) f.view in
    subst IsWellFormed (sym f.view) (well_alone (record v { max_allocs = limit }) f.name size 0 [] (omega (arith, formed.few_used, same.1, m)) f.below (omega (arith, formed.fits, same.0, n)))

-- a heap that was made, after its first grant, whose alignment its step then takes in
made_space : (c : tickets.Call) (a : tickets.Answer) (New : Guard → Guard → Type 0) (size limit made align : ℕ) (h : Guard) → IsAdmitted c → ((v w : Guard) → New v w → tickets.Answers c v w a [])
    → ((v w : Guard) → New v w → IsAsLarge v.space w.space) → 1 ≤ align → GrantsNew New size limit made align h → IsNewSpace h
made_space c a New size limit made align h admitted answered large some s =
    let before : IsWellFormed h.space → IsWellFormed s.by.0.space = subst (λ (z : Guard). IsWellFormed z.space → IsWellFormed s.by.0.space) (sym s.by.2.rest) (λ w. w) in (
      record {
        fresh = s.before;
        size = size;
        limit = limit;
        realm = made;
        new = s.new;
        events = Called c a [] ∷ Called (tickets.Call.Raise_step align) tickets.Answer.Nothing [] ∷ [];
        done = (s.by.0, (admitted, answered s.before s.by.0 s.by.1), (h, (some, (refl, s.by.2, refl)), refl));
      },
      (λ w. fresh_formed size limit s.before.space s.by.0.space s.new.space (large s.before s.by.0 s.by.1) (before w)),
      ((λ v w. before w), ((λ v w. w), tt)),
    )

made_realm : (n : ℕ) (g m h : Guard) (t : Ticket) (align : ℕ) → tickets.Requests n g m (Some t) → tickets.RaisesStep align m h → h.realm ≡ g.realm
made_realm n g m h t align asks raises = ap (λ (z : Guard). z.realm) raises.rest ∙ asks.grants.realm.1

-- a request, which a call of tickets grants in a heap that was there
module _ (c : tickets.Call) (Call : Ticket → Guard → Guard → Type 0) (answers : (t : Ticket) (g h : Guard) → Call t g h → tickets.Answers c g h (tickets.Answer.Requested (Some t)) []) (admitted : IsAdmitted c)
    (goes : (g : Guard) → GoesByTheStep c g) (size align : ℕ) (hs ks : Heaps) (grant : Granted) (s : GrantsBy Call size align hs ks grant) (some : 1 ≤ align) where
  abbrev k : ℕ
  k = grant.place.heap

  abbrev t : Ticket
  t = ticket_in grant

  granted_here : Evolves hs.made (heap_at k hs) (Some s.after)
  granted_here = elim s.step [
    | inl o ↦
        let b = o.1 in
        let Must : Guard → Type 0 = MustRaise hs.limits k (blocks_needed align) in
        turned hs.made k hs b.was s.after b.heap (after_raise Must hs.limits (λ g must. must.1) b.was b.before s.after b.raised
        (turn c (tickets.Answer.Requested (Some t)) [] b.before s.after admitted (goes b.before) (answers t b.before s.after b.by)))
    | inr n ↦ subst (λ o. Evolves hs.made o (Some s.after)) (sym n.1) (elim n.2 [
      | inl u ↦
          let b = u.1 in (
            made_space (tickets.Call.Allocate_aligned size 1) (tickets.Answer.Requested (Some t)) (λ g h. tickets.AllocatesAligned size 1 g h (Some t)) (usual_size hs.limits k) hs.limits.first_allocs (hs.made + 1) align s.after
                (omega arith) (λ v w a. (Some t, refl, a, refl)) (λ v w a. aligned_large size 1 t v w a) some b,
            omega (arith, b.new.realm, made_realm size b.before b.by.0 s.after t align b.by.1.request b.by.2),
          )
      | inr l ↦
          let b = l.1 in (
            made_space (tickets.Call.Allocate_tight size) (tickets.Answer.Requested (Some t)) (λ g h. tickets.AllocatesTight size g h (Some t)) size larger_limit (hs.made + 1) align s.after
                tt (λ v w a. (Some t, refl, a, refl)) (λ v w a. tight_large size t v w a) some b,
            omega (arith, b.new.realm, made_realm size b.before b.by.0 s.after t align b.by.1.request b.by.2),
          )
    ])
  ]

-- ---- all heaps
same_evolve : (hs ks : Heaps) → IsSame hs ks → Evolve hs ks
same_evolve hs ks same = record {
  realm = ap (λ (h : Heaps). h.realm) same;
  made = omega (arith, ap (λ (h : Heaps). h.made) same);
  heaps = λ j. subst (λ s. Evolves hs.made (heap_at j hs) (slot j s)) (sym (ap (λ (h : Heaps). h.slots) same)) (same_evolves hs.made (heap_at j hs));
}

put_evolves : (k : ℕ) (hs ks : Heaps) (o : Option Guard) → ks.slots ≡ slice_set hs.slots k o → k < length hs.slots → Evolves hs.made (heap_at k hs) o → (j : ℕ) → Evolves hs.made (heap_at j hs) (heap_at j ks)
put_evolves k hs ks o is there here j = subst (λ s. Evolves hs.made (heap_at j hs) (slot j s)) (sym is) (elim (cases_eq j k) [
  | inl e ↦ rw (e, slot_same hs.slots k o there) here
  | inr d ↦ rw (slot_other hs.slots k j o d) (same_evolves hs.made (heap_at j hs))
])

drop_evolve : (k : ℕ) (hs ks : Heaps) → Puts k None hs ks → Evolve hs ks
drop_evolve k hs ks puts = record {
  realm = ap (λ (h : Heaps). h.realm) puts;
  made = omega (arith, ap (λ (h : Heaps). h.made) puts);
  heaps = λ j. elim (cases_lt k (length hs.slots)) [
    | inl there ↦ put_evolves k hs ks None (ap (λ (h : Heaps). h.slots) puts) there tt j
    | inr past ↦
        let none : slot k hs.slots ≡ None = slot_past hs.slots k past in
        let same : ks.slots ≡ hs.slots = ap (λ (h : Heaps). h.slots) puts ∙ ap (slice_set hs.slots k) (sym none) ∙ slot_set hs.slots k in
        subst (λ s. Evolves hs.made (heap_at j hs) (slot j s)) (sym same) (same_evolves hs.made (heap_at j hs))
  ];
}

alters_evolve : (k : ℕ) (P : Guard → Guard → Type 0) (hs ks : Heaps) → (a : Alters k P hs ks) → Turns a.before a.after → Evolve hs ks
alters_evolve k P hs ks a t = record {
  realm = ap (λ (h : Heaps). h.realm) a.heaps;
  made = omega (arith, ap (λ (h : Heaps). h.made) a.heaps);
  heaps = put_evolves k hs ks (Some a.after) (ap (λ (h : Heaps). h.slots) a.heaps) (slot_there hs.slots k (ap is_some a.heap)) (turned hs.made k hs a.before a.after a.heap t);
}

on_evolve : (k : ℕ) (c : tickets.Call) (hs ks : Heaps) (a : tickets.Answer) (ms : List Move) → (x : TakesOn k c hs ks a ms) → IsAdmitted c → GoesByTheStep c x.before → Evolve hs ks
on_evolve k c hs ks a ms x some goes = alters_evolve k (λ g h. tickets.Answers c g h a ms) hs ks x (turn c a ms x.before x.after some goes x.by)

where_evolve : (k : ℕ) (c : tickets.Call) (without : tickets.Answer) (hs ks : Heaps) (a : tickets.Answer) → IsAdmitted c → ((g : Guard) → GoesByTheStep c g) → TakesWhere k c without hs ks a → Evolve hs ks
where_evolve k c without hs ks a some goes x = go (heap_at k hs) refl
  where
    go : (o : Option Guard) → heap_at k hs ≡ o → Evolve hs ks
    go None e = same_evolve hs ks (x.none e).0
    go (Some g) e = let m = x.step (ap is_some e) in on_evolve k c hs ks a m.0 m.1 some (goes m.1.before)

at_evolve : (p : Place) (c : tickets.Call) (hs ks : Heaps) (r : Option Bool) → IsAdmitted c → ((g : Guard) → GoesByTheStep c g) → TakesAt p c hs ks r → Evolve hs ks
at_evolve p c hs ks None some goes x = same_evolve hs ks (x.not_live refl)
at_evolve p c hs ks (Some d) some goes x = let m = x.step refl in on_evolve p.heap c hs ks (tickets.Answer.Resized (Some d)) [] m some (goes m.before)

more_made : (b : Bool) (n : ℕ) → n ≤ (if b then n + 1 else n)
more_made true n = omega arith
more_made false n = omega arith

-- a request, which a call of tickets grants in a heap that was there
module _ (c : tickets.Call) (Call : Ticket → Guard → Guard → Type 0) (answers : (t : Ticket) (g h : Guard) → Call t g h → tickets.Answers c g h (tickets.Answer.Requested (Some t)) []) (admitted : IsAdmitted c)
    (goes : (g : Guard) → GoesByTheStep c g) (size align : ℕ) (hs ks : Heaps) (some : 1 ≤ align) where
  grants_evolve : (grant : Granted) → GrantsBy Call size align hs ks grant → Evolve hs ks
  grants_evolve grant s = record {
    realm = ap (λ (h : Heaps). h.realm) s.heaps;
    made = let m = more_made grant.is_new hs.made in let e = ap (λ (h : Heaps). h.made) s.heaps in omega (arith, m, e);
    heaps = put_evolves grant.place.heap hs ks (Some s.after) (ap (λ (h : Heaps). h.slots) s.heaps) s.number (granted_here c Call answers admitted goes size align hs ks grant s some);
  }

  requested_evolve : {NoneServes : Heaps → Type 0} {FirstServes : ℕ → Heaps → Type 0} (r : Result Granted Refusal) → calls.AllocatesBy NoneServes FirstServes Call size align hs ks r → Evolve hs ks
  requested_evolve (Err e) x = same_evolve hs ks x.same
  requested_evolve (Ok g) x = grants_evolve g x.grants

-- what is done or changes nothing
done_evolve : (hs ks : Heaps) (r : Bool) → (r ≡ false → IsSame hs ks) → (r ≡ true → Evolve hs ks) → Evolve hs ks
done_evolve hs ks true same step = step refl
done_evolve hs ks false same step = same_evolve hs ks (same refl)

frees_evolve : (p : Place) (hs ks : Heaps) → Alters p.heap (λ g h. tickets.Frees (ticket_of p) g h true) hs ks → Evolve hs ks
frees_evolve p hs ks f = alters_evolve p.heap (λ g h. tickets.Frees (ticket_of p) g h true) hs ks f (turn (tickets.Call.Free (ticket_of p)) (tickets.Answer.Was_done true) [] f.before f.after tt tt (true, refl, f.by, refl))

relocates_evolve : (p : Place) (align : ℕ) (hs ks : Heaps) (r : Option Granted) → 1 ≤ align → calls.Relocates p align hs ks r → Evolve hs ks
relocates_evolve p align hs ks None some x = same_evolve hs ks (x.same refl)
relocates_evolve p align hs ks (Some g) some x =
    grants_evolve (tickets.Call.Allocate_aligned (size_of p hs) align) (λ t g h. tickets.AllocatesAligned (size_of p hs) align g h (Some t)) (λ t g h a. (Some t, refl, a, refl)) some (λ g. tt) (size_of p hs) align hs ks some g x.grants

own_evolve : (p : Place) (hs ks : Heaps) (r : Option Granted) → calls.RelocatesOwn p hs ks r → Evolve hs ks
own_evolve p hs ks None x = same_evolve hs ks (x.same refl)
own_evolve p hs ks (Some g) x = elim (cases_eq (step_at p.heap hs) 0) [
  | inl e ↦ absurd (let no : Some g ≡ None = x.none e in cc)
  | inr d ↦ elim (cases_Bool (is_some (range_of p hs))) [
    | inl live ↦
        let s = x.step live (omega (arith, d)) in
        relocates_evolve p s.0 hs ks (Some g) (divisor_of_some s.0 (step_at p.heap hs) s.1.1 (omega (arith, d))) s.2
    | inr dead ↦ absurd (let no : Some g ≡ None = x.not_live (λ live. absurd (let e : true ≡ false = sym live ∙ dead in cc)) in cc)
  ]
]

extends_evolve : (k more : ℕ) (d : Bool) (hs ks : Heaps) → ExtendsHeap k more d hs ks → Evolve hs ks
extends_evolve k more d hs ks x = alters_evolve k (ExtendsIf hs.limits k more d) hs ks x (go d x.by)
  where
    go : (d : Bool) → ExtendsIf hs.limits k more d x.before x.after → Turns x.before x.after
    go true e = after_raise (MustExtend hs.limits k more) hs.limits (λ g must. must.2.1) x.before e.between x.after e.raised
        (turn (tickets.Call.Extend more) (tickets.Answer.Was_done true) [] e.between x.after tt tt (true, refl, e.by, refl))
    go false (inl same) = stays x.before x.after same
    go false (inr by) = turn (tickets.Call.Extend more) (tickets.Answer.Was_done false) [] x.before x.after tt tt (false, refl, by, refl)

retracts_evolve : (k less : ℕ) (r : Bool) (hs ks : Heaps) → Alters k (RetractsTo hs.limits k less r) hs ks → Evolve hs ks
retracts_evolve k less r hs ks x = alters_evolve k (RetractsTo hs.limits k less r) hs ks x (go r x.by)
  where
    go : (r : Bool) → RetractsTo hs.limits k less r x.before x.after → Turns x.before x.after
    go true e = turn (tickets.Call.Retract less) (tickets.Answer.Was_done true) [] x.before x.after tt tt (true, refl, e.step refl, refl)
    go false e = elim (e.same refl) [
      | inl same ↦ stays x.before x.after same
      | inr by ↦ turn (tickets.Call.Retract less) (tickets.Answer.Was_done false) [] x.before x.after tt tt (false, refl, by, refl)
    ]

reset_slot : (made : ℕ) (o new : Option Guard) → ResetsIn o new → Evolves made o new
reset_slot made None new e = subst (Evolves made None) (sym e) tt
reset_slot made (Some g) new r = subst (Evolves made (Some g)) (sym r.1) (turn tickets.Call.Reset tickets.Answer.Nothing [] g r.0 tt tt (refl, r.2, refl))

compact_slot : (made : ℕ) (o new : Option Guard) → CompactsSlot o new → Evolves made o new
compact_slot made None new e = subst (Evolves made None) (sym e) tt
compact_slot made (Some g) new r = subst (Evolves made (Some g)) (sym r.1) (turn tickets.Call.Compact (tickets.Answer.Was_done (can_compact g)) ms g r.0 tt tt (can_compact g, refl, by))
  where
    ms : List Move
    ms = if can_compact g then moves_by g.step 0 0 g.space.blocks else []

    none : g.step ≡ 0 → can_compact g ≡ false
    none e = rw e refl

    by : tickets.Compacts Notes [] g r.0 ms (can_compact g)
    by = record {
      sizes = r.2.sizes;
      aligned = r.2.aligned;
      moved = notes_all [] ms;
      none = λ e. (none e, r.2.none e);
      step = r.2.step;
      serials = r.2.serials;
      accesses_max = r.2.accesses;
    }

-- ---- each call
evolve : (c : Call) (hs ks : Heaps) (r : Reply) → IsValid c → GoesByTheSteps c hs → Takes c hs ks r → Evolve hs ks
evolve (Allocate size align) hs ks r some goes x =
    requested_evolve (tickets.Call.Allocate_aligned size align) (λ t g h. tickets.AllocatesAligned size align g h (Some t)) (λ t g h a. (Some t, refl, a, refl)) some (λ g. tt) size align hs ks some x.0 x.3
evolve (Allocate_tight size align) hs ks r some goes x =
    requested_evolve (tickets.Call.Allocate_tight_aligned size align) (λ t g h. tickets.AllocatesTightAligned size align g h (Some t)) (λ t g h a. (Some t, refl, a, refl)) some (λ g. tt) size align hs ks some x.0 x.3
evolve (Free p) hs ks r some goes x = done_evolve hs ks x.0 x.2.same (λ e. frees_evolve p hs ks (x.2.step e))
evolve (Relocate p) hs ks r some goes x = own_evolve p hs ks x.0 x.2
evolve (Relocate_aligned p align) hs ks r some goes x = relocates_evolve p align hs ks x.0 some x.2
evolve (Drop_empty keep) hs ks r some goes x = go x.0 x.2
  where
    go : (o : Option ℕ) → calls.DropsEmpty keep hs ks o → Evolve hs ks
    go None y = same_evolve hs ks (y.same refl)
    go (Some k) y = drop_evolve k hs ks y.heaps
evolve (Drop_heap k) hs ks r some goes x = done_evolve hs ks x.0 x.2.same (λ e. drop_evolve k hs ks (x.2.heaps e))
evolve (Give_up k) hs ks r some goes x = done_evolve hs ks x.0 x.2.same (λ e. drop_evolve k hs ks (x.2.heaps e))
evolve Reset hs ks r some goes x = record {
  realm = ap (λ (h : Heaps). h.realm) x.1.rest;
  made = omega (arith, ap (λ (h : Heaps). h.made) x.1.rest);
  heaps = λ k. reset_slot hs.made (heap_at k hs) (heap_at k ks) (x.1.heaps k);
}
evolve (Shrink p n) hs ks r some goes x = at_evolve p (tickets.Call.Shrink (ticket_of p) n) hs ks x.0 tt (λ g. tt) x.2
evolve (Grow_in_place p n) hs ks r some goes x = at_evolve p (tickets.Call.Grow_in_place (ticket_of p) n) hs ks x.0 tt (λ g. tt) x.2
evolve (Extend_heap k more) hs ks r some goes x = go x.0 x.2
  where
    go : (a : Result Bool AllocError) → calls.ExtendsOne k more hs ks a → Evolve hs ks
    go (Err e) y = same_evolve hs ks y.same
    go (Ok d) y = there (heap_at k hs) refl
      where
        there : (o : Option Guard) → heap_at k hs ≡ o → Evolve hs ks
        there None e = same_evolve hs ks (y.none e)
        there (Some g) e = extends_evolve k more d hs ks (y.step (ap is_some e))
evolve (Compact_heap k) hs ks r some goes x = where_evolve k tickets.Call.Compact (tickets.Answer.Was_done false) hs ks (tickets.Answer.Was_done x.0) tt (λ g. tt) x.2
evolve Compact_all hs ks r some goes x = record {
  realm = ap (λ (h : Heaps). h.realm) x.2.step.rest;
  made = omega (arith, ap (λ (h : Heaps). h.made) x.2.step.rest);
  heaps = λ k. compact_slot hs.made (heap_at k hs) (heap_at k ks) (x.2.step.heaps k);
}
evolve (Make_room k size align) hs ks r some goes x = where_evolve k (tickets.Call.Make_room size align) (tickets.Answer.Room_made None) hs ks (tickets.Answer.Room_made x.0) some (λ g. tt) x.2
evolve (Retract_heap k less) hs ks r some goes x = retracts_evolve k less x.0 hs ks x.2
evolve (On_heap k c) hs ks r some goes x = on_evolve k c hs ks x.0 x.1 x.3 some (subst (λ o. IfSome o (GoesByTheStep c)) x.3.heap goes)

-- ---- so each is a step, and each heap goes on
to_step : (made : ℕ) (o p : Option Guard) → Evolves made o p → ContinuesIn made o p
to_step made o None e = tt
to_step made None (Some h) e = e.1
to_step made (Some g) (Some h) e = e.0

pub call_steps : (c : Call) (hs ks : Heaps) (r : Reply) → IsValid c → GoesByTheSteps c hs → Takes c hs ks r → IsStep hs ks
call_steps c hs ks r some goes x =
    let e = evolve c hs ks r some goes x in
    record { realm = e.realm; made = e.made; heaps = λ k. to_step hs.made (heap_at k hs) (heap_at k ks) (e.heaps k) }

-- what goes by no step does it too
to_go : (made : ℕ) (o p : Option Guard) → Evolves made o p → GoesOn o p
to_go made o None e = tt
to_go made None (Some h) e = e.0
to_go made (Some g) (Some h) e = e.1

same_goes : (o : Option Guard) → GoesOn o o
same_goes None = tt
same_goes (Some g) = ([], refl, tt)

on_goes : (k : ℕ) (c : tickets.Call) (hs ks : Heaps) (a : tickets.Answer) (ms : List Move) → IsAdmitted c → TakesOn k c hs ks a ms → (j : ℕ) → GoesOn (heap_at j hs) (heap_at j ks)
on_goes k c hs ks a ms some x j =
    let there : k < length hs.slots = slot_there hs.slots k (ap is_some x.heap) in
    subst (λ s. GoesOn (heap_at j hs) (slot j s)) (sym (ap (λ (h : Heaps). h.slots) x.heaps)) (elim (cases_eq j k) [
      | inl e ↦ rw (e, slot_same hs.slots k (Some x.after) there) (subst (λ o. GoesOn o (Some x.after)) (sym x.heap) (Called c a ms ∷ [], (x.after, (some, x.by), refl), ((λ v w. w), tt)))
      | inr d ↦ rw (slot_other hs.slots k j (Some x.after) d) (same_goes (heap_at j hs))
    ])

-- whether it is a call on one heap
other_steps : (c : Call) (hs : Heaps) → ((k : ℕ) × (d : tickets.Call) × (c ≡ On_heap k d)) ⊎ GoesByTheSteps c hs
other_steps (On_heap k d) hs = inl (k, d, refl)
other_steps (Allocate size align) hs = inr tt
other_steps (Allocate_tight size align) hs = inr tt
other_steps (Free p) hs = inr tt
other_steps (Relocate p) hs = inr tt
other_steps (Relocate_aligned p align) hs = inr tt
other_steps (Drop_empty keep) hs = inr tt
other_steps (Drop_heap k) hs = inr tt
other_steps (Give_up k) hs = inr tt
other_steps Reset hs = inr tt
other_steps (Shrink p n) hs = inr tt
other_steps (Grow_in_place p n) hs = inr tt
other_steps (Extend_heap k more) hs = inr tt
other_steps (Compact_heap k) hs = inr tt
other_steps Compact_all hs = inr tt
other_steps (Make_room k size align) hs = inr tt
other_steps (Retract_heap k less) hs = inr tt

pub call_goes : (c : Call) (hs ks : Heaps) (r : Reply) → IsValid c → Takes c hs ks r → (k : ℕ) → GoesOn (heap_at k hs) (heap_at k ks)
call_goes c hs ks r some x j = elim (other_steps c hs) [
  | inl o ↦ let y : Takes (On_heap o.0 o.1) hs ks r = subst (λ (d : Call). Takes d hs ks r) o.2 x in on_goes o.0 o.1 hs ks y.0 y.1 (subst IsValid o.2 some) y.3 j
  | inr goes ↦ to_go hs.made (heap_at j hs) (heap_at j ks) ((evolve c hs ks r some goes x).heaps j)
]

-- ---- lists of calls
does_append : (es more : List Event) (f g h : Guard) → DoesAll f es g → DoesAll g more h → DoesAll f (es ++ more) h
does_append [] more f g h e d = subst (λ (z : Guard). DoesAll z more h) e d
does_append (e ∷ es) more f g h a d = (a.0, a.1, does_append es more a.0 g h a.2 d)

stays_space : (o p : Option Guard) → IfSome o IsSpace → GoesOn o p → IfSome p IsSpace
stays_space o None s c = tt
stays_space None (Some h) s c = c.0
stays_space (Some g) (Some h) s c = record { fresh = s.fresh; size = s.size; limit = s.limit; realm = s.realm; new = s.new; events = s.events ++ c.0; done = does_append s.events c.0 s.fresh g h s.done c.1 }

pub spaces_stay : (cs : List Call) (rs : List Reply) (hs ks : Heaps) → AllByRecursion IsValid cs → ((k : ℕ) → IfSome (heap_at k hs) IsSpace) → TakesAll hs cs rs ks → (k : ℕ) → IfSome (heap_at k ks) IsSpace
spaces_stay [] [] hs ks valid s x k = subst (λ (h : Heaps). IfSome (heap_at k h) IsSpace) (sym x) (s k)
spaces_stay [] (r ∷ rs) hs ks valid s x k = absurd x
spaces_stay (c ∷ cs) [] hs ks valid s x k = absurd x
spaces_stay (c ∷ cs) (r ∷ rs) hs ks valid s x k =
    spaces_stay cs rs x.0 ks valid.1 (λ j. stays_space (heap_at j hs) (heap_at j x.0) (s j) (call_goes c hs x.0 r valid.0 x.1 j)) x.4 k

-- ---- on one heap
pub on_heap : (k : ℕ) (e : Event) (hs ks : Heaps) → Alters k (Happens e) hs ks → IsStep hs ks
on_heap k e hs ks a = record {
  realm = ap (λ (h : Heaps). h.realm) a.heaps;
  made = omega (arith, ap (λ (h : Heaps). h.made) a.heaps);
  heaps = λ j. subst (λ s. ContinuesIn hs.made (heap_at j hs) (slot j s)) (sym (ap (λ (h : Heaps). h.slots) a.heaps)) (elim (cases_eq j k) [
    | inl e ↦ rw (e, slot_same hs.slots k (Some a.after) (slot_there hs.slots k (ap is_some a.heap))) (subst (λ o. ContinuesIn hs.made o (Some a.after)) (sym a.heap) here)
    | inr d ↦ rw (slot_other hs.slots k j (Some a.after) d) (to_step hs.made (heap_at j hs) (heap_at j hs) (same_evolves hs.made (heap_at j hs)))
  ]);
}
  where
    here : Continues a.before a.after
    here = happened e a.before a.after a.by

pub answered : (k : ℕ) (c : tickets.Call) (r : tickets.Answer) (ms : List Move) (hs ks : Heaps) → TakesOn k c hs ks r ms → ((g : Guard) → heap_at k hs ≡ Some g → GoesByTheStep c g) → IsStep hs ks
answered k c r ms hs ks a by = on_heap k (Called c r ms) hs ks (record { before = a.before; after = a.after; heap = a.heap; by = (by a.before a.heap, a.by); heaps = a.heaps })
