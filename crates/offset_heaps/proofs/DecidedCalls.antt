-- Each call on twins has the same result, and leaves twins.
use Rattle.std.proofs.Common.{[], ◌∷◌, map, suc}
use Rattle.std.proofs.Common.{◌≡◌, ℕ, ◌+◌, ◌<◌, ◌≤◌, Bool, true, false, List, Option, Some, None, MatchOption, Result, Ok, Err, IsSome, is_some, if◌then◌else◌, nat_eq, refl, sym, ap, ap₂, subst, subst₂, ◌∙◌, inl, inr, arith, IsTrue, ◌↔◌}
use Rattle.std.proofs.lemmas.Bool.{cases_Bool, cases_lt}
use Rattle.offset_allocator.specs.{Requests.blocks_needed, Requests.units_needed, View.IsWellFormed, View.count_used}
use Rattle.offset_allocator.proofs.{DecidedChanges.extends_decided, Moving.DecidedSteps.compacts_by_decided}
use Rattle.offset_allocator.specs.{Moving.BySteps.CompactsBy, Moving.Compacting.Move}
use Rattle.std.specs.Int.{IsGcd}
use Rattle.std.proofs.lemmas.Nat.Gcd.{same_from_IsGcd}
use Rattle.offset_guarded.specs.Guard.{Guard, Ticket, serial_of}
use Rattle.std.specs.declared.alloc.AllocError.{AllocError}
use Rattle.offset_guarded.specs.Answers as tickets
use Rattle.offset_guarded.specs.Answers.{Notes}
use Rattle.offset_guarded.specs.Twins.{IsTwin}
use Rattle.offset_guarded.proofs.Decided.{answers_decided}
use Rattle.offset_guarded.proofs.Twins.{as_twin, kept_twins, same_twin, slid_twins, twin_sym, twin_trans}
use Rattle.offset_heaps.specs.declared.limits.Limits.{Limits}
use Rattle.offset_heaps.specs.declared.place.Granted.{Granted}
use Rattle.offset_heaps.specs.declared.refusal.Refusal.{Refusal}
use Rattle.offset_heaps.specs.declared.refusal.Refusal.TheVariants.{Memory}
use Rattle.offset_heaps.specs.Changing.{Alters, CompactsAll, CompactsIn, CompactsSlot, IsCompactible, RetractsTo, can_compact}
use Rattle.offset_heaps.specs.Extending.{CanExtendIn, ExtendsIf, MustExtend}
use Rattle.offset_heaps.specs.Heaps.{Heaps, Grants, IsRaisedWhere, IsNext, Puts, heap_at, is_empty, empties, least_units, live_units_of, numbers, part, slot, step_at, step_of, AreTotals, free_of, largest_room}
use Rattle.offset_heaps.specs.{Heaps.range_of, Heaps.room_of, Heaps.total, Heaps.units_of_heap, Histories.ResetsAll, State.quiet, Twins.AreTwins, Twins.IsTwinIn}
use Rattle.offset_heaps.specs.declared.totals.Totals.{Totals}
use Rattle.offset_heaps.specs.Places.{Place, ticket_of}
use Rattle.offset_heaps.specs.Relocating.{HasLive, IsEmptiest, NoneLive, TakesRange, live_units_at, units_in, size_of, IsOwnAlign, offset_in, offset_of}
use Rattle.offset_heaps.specs.State as state
use Rattle.offset_heaps.proofs.{States.slot_quiet, Empties.empty_there, Numbers.slot_there}
use Rattle.offset_heaps.specs.Calls.{Allocates, AllocatesBy, AllocatesTight, TakesAll, Call, Allocate, Allocate_tight, Free, Relocate, Drop_empty, Drop_heap, Give_up, Reset, Shrink, Grow_in_place, Extend_heap, Compact_heap, Compact_all, Make_room, Retract_heap, On_heap, Answered, Drops, DropsEmpty, Frees, GivesUp, IsStarved, ExtendsOne, Relocates, Reply, Requested, Second, Dropped, Was_done, Resized, Extended, Takes, TakesAt, TakesWhere, CompactsEach, RelocatesOwn, Relocate_aligned, TakesOn}
use Rattle.offset_heaps.proofs.Decided.{IsDecided, aligned_decided, grants_decided, known, known_at, puts_twins, same_twins, tight_decided}
use Rattle.offset_heaps.proofs.Finders.{IsFinder, fits, holds, must_in_twins, next_twins, one_first, one_next, where_twins, why_twins}
use Rattle.offset_heaps.proofs.Compacted.{compacts, done_is}
use Rattle.offset_heaps.proofs.Refusals.{one_reason, refused}
use Rattle.offset_allocator.specs.Moving.Retracting.{CanRetract}
use Rattle.offset_heaps.proofs.Limited.{unretracted}
use Rattle.offset_heaps.proofs.Longer.{range_longer, serials_longer}
use Rattle.offset_heaps.proofs.Raising.{where_formed}
use Rattle.offset_heaps.proofs.Twins.{in_twin, none_twins, option_twin, range_twins, reset_twins, room_twins, some_twin, total_twins, twin_some, twins_sym, twins_trans}

-- ---- requests
module _ {NoneServes : Heaps → Type 0} {FirstServes : ℕ → Heaps → Type 0} (f : IsFinder NoneServes FirstServes) {Call : Ticket → Guard → Guard → Type 0} (each : IsDecided Call) (size align : ℕ) where
  -- which heap grants it, and whether it is new
  both_granted : (hs hs' : Heaps) (g h : Granted) → AreTwins hs hs' → (g.is_new ≡ false → FirstServes g.place.heap hs) → (g.is_new ≡ true → NoneServes hs × IsNext size g.place.heap hs)
      → (h.is_new ≡ false → FirstServes h.place.heap hs') → (h.is_new ≡ true → NoneServes hs' × IsNext size h.place.heap hs') → (g.place.heap ≡ h.place.heap) × (g.is_new ≡ h.is_new)
  both_granted hs hs' g h t found made found' made' =
      let s = twins_sym hs hs' t in
      let k : ℕ = g.place.heap in
      let j : ℕ = h.place.heap in
      elim (cases_Bool g.is_new) [
        | inl e ↦ elim (cases_Bool h.is_new) [
          | inl q ↦ (one_next size k j hs (made e).1 (next_twins hs' hs s size j (made' q).1), e ∙ sym q)
          | inr q ↦ absurd (f.apart j hs (made e).0 (f.first j hs' hs s (found' q)))
        ]
        | inr e ↦ elim (cases_Bool h.is_new) [
          | inl q ↦ absurd (f.apart k hs (f.none hs' hs s (made' q).0) (found e))
          | inr q ↦ (f.one k j hs (found e) (f.first j hs' hs s (found' q)), e ∙ sym q)
        ]
      ]

  requests_decided : (hs hs' ks ks' : Heaps) → size ≤ 4294967295 → state.IsWellFormed hs → AreTwins hs hs' → (r r' : Result Granted Refusal) → AllocatesBy NoneServes FirstServes Call size align hs ks r
      → AllocatesBy NoneServes FirstServes Call size align hs' ks' r' → (r ≡ Err Memory → ⊥) → (r' ≡ Err Memory → ⊥) → (r ≡ r') × AreTwins ks ks'
  requests_decided hs hs' ks ks' small is t (Err a) (Err b) x y m n =
      (ap Err (one_reason f size align hs a b x.why (why_twins f hs' hs (twins_sym hs hs' t) size align b y.why)), same_twins hs hs' ks ks' t x.same y.same)
  requests_decided hs hs' ks ks' small is t (Err a) (Ok h) x y m n = absurd (refused f size align hs' a h (λ e. let q = y.empty e in cc) (why_twins f hs hs' t size align a x.why) (λ e. m (ap Err e)) y.found (λ e. (y.made e).1))
  requests_decided hs hs' ks ks' small is t (Ok g) (Err b) x y m n =
      absurd (refused f size align hs b g (λ e. let q = x.empty e in cc) (why_twins f hs' hs (twins_sym hs hs' t) size align b y.why) (λ e. n (ap Err e)) x.found (λ e. (x.made e).1))
  requests_decided hs hs' ks ks' small is t (Ok g) (Ok h) x y m n =
      let one = both_granted hs hs' g h t x.found x.made y.found y.made in
      let all = grants_decided Call each size align hs hs' ks ks' g h (λ e. small) (known hs is) t one.0 one.1 x.grants y.grants in
      (ap Ok all.0, all.1)

allocates_decided : (size align : ℕ) (hs hs' ks ks' : Heaps) → size ≤ 4294967295 → state.IsWellFormed hs → AreTwins hs hs' → (r r' : Result Granted Refusal) → Allocates size align hs ks r → Allocates size align hs' ks' r'
    → (r ≡ Err Memory → ⊥) → (r' ≡ Err Memory → ⊥) → (r ≡ r') × AreTwins ks ks'
allocates_decided size align = requests_decided (fits (blocks_needed align) (units_needed size align)) (aligned_decided size align) size align

tights_decided : (size align : ℕ) (hs hs' ks ks' : Heaps) → size ≤ 4294967295 → state.IsWellFormed hs → AreTwins hs hs' → (r r' : Result Granted Refusal) → AllocatesTight size align hs ks r → AllocatesTight size align hs' ks' r'
    → (r ≡ Err Memory → ⊥) → (r' ≡ Err Memory → ⊥) → (r ≡ r') × AreTwins ks ks'
tights_decided size align = requests_decided (holds size align) (tight_decided size align) size align

-- ---- ranges and heaps that are changed in place
some_twins : (hs ks : Heaps) → AreTwins hs ks → (k : ℕ) → is_some (heap_at k ks) ≡ is_some (heap_at k hs)
some_twins hs ks t k = option_twin is_some (heap_at k hs) (heap_at k ks) (λ g h u. refl) (t.heaps k)

alters_twins : (k : ℕ) (P Q : Guard → Guard → Type 0) (hs hs' ks ks' : Heaps) → AreTwins hs hs' → (a : Alters k P hs ks) → (b : Alters k Q hs' ks') → IsTwin a.after b.after → AreTwins ks ks'
alters_twins k P Q hs hs' ks ks' t a b twin =
    puts_twins k (Some a.after) (Some b.after) hs hs' ks ks' t (slot_there hs.slots k (ap is_some a.heap)) (slot_there hs'.slots k (ap is_some b.heap)) (b.after, refl, twin) a.heaps b.heaps

before_twins : (k : ℕ) (P Q : Guard → Guard → Type 0) (hs hs' ks ks' : Heaps) → AreTwins hs hs' → (a : Alters k P hs ks) → (b : Alters k Q hs' ks') → IsTwin a.before b.before
before_twins k P Q hs hs' ks ks' t a b = some_twin a.before b.before (heap_at k hs) (heap_at k hs') a.heap b.heap (t.heaps k)

free_decided : (p : Place) (hs hs' ks ks' : Heaps) → state.IsWellFormed hs → AreTwins hs hs' → (r r' : Bool) → Frees p hs ks r → Frees p hs' ks' r' → (r ≡ r') × AreTwins ks ks'
free_decided p hs hs' ks ks' is t false false x y = (refl, same_twins hs hs' ks ks' t (x.same refl) (y.same refl))
free_decided p hs hs' ks ks' is t true false x y = absurd (let e : false ≡ true = y.done.1 (subst (λ o. is_some o ≡ true) (sym (range_twins hs hs' t p)) (x.done.0 refl)) in cc)
free_decided p hs hs' ks ks' is t false true x y = absurd (let e : false ≡ true = x.done.1 (subst (λ o. is_some o ≡ true) (range_twins hs hs' t p) (y.done.0 refl)) in cc)
free_decided p hs hs' ks ks' is t true true x y =
    let f = x.step refl in
    let k = y.step refl in
    let c = tickets.Call.Free (ticket_of p) in
    let done = tickets.Answer.Was_done true in
    let P : Guard → Guard → Type 0 = λ g h. tickets.Frees (ticket_of p) g h true in
    let before = before_twins p.heap P P hs hs' ks ks' t f k in
    let e = answers_decided c f.before k.before f.after k.after (known_at hs (known hs is) p.heap f.before f.heap) before done done [] [] (true, refl, f.by, refl) (true, refl, k.by, refl) in
    (refl, alters_twins p.heap P P hs hs' ks ks' t f k e.2)

-- ---- calls of tickets on one heap
on_heap_decided : (k : ℕ) (c : tickets.Call) (hs hs' ks ks' : Heaps) → state.IsWellFormed hs → AreTwins hs hs' → (a a' : tickets.Answer) (ms ms' : List Move)
    → TakesOn k c hs ks a ms → TakesOn k c hs' ks' a' ms' → (a ≡ a') × (ms ≡ ms') × AreTwins ks ks'
on_heap_decided k c hs hs' ks ks' is t a a' ms ms' x y =
    let P : Guard → Guard → Type 0 = λ g h. tickets.Answers c g h a ms in
    let Q : Guard → Guard → Type 0 = λ g h. tickets.Answers c g h a' ms' in
    let before = before_twins k P Q hs hs' ks ks' t x y in
    let e = answers_decided c x.before y.before x.after y.after (known_at hs (known hs is) k x.before x.heap) before a a' ms ms' x.by y.by in
    (e.0, e.1, alters_twins k P Q hs hs' ks ks' t x y e.2)

-- where the number has one
where_decided : (k : ℕ) (c : tickets.Call) (without : tickets.Answer) (hs hs' ks ks' : Heaps) → state.IsWellFormed hs → AreTwins hs hs' → (a a' : tickets.Answer)
    → TakesWhere k c without hs ks a → TakesWhere k c without hs' ks' a' → (a ≡ a') × AreTwins ks ks'
where_decided k c without hs hs' ks ks' is t a a' x y = go (heap_at k hs) refl
  where
    go : (o : Option Guard) → heap_at k hs ≡ o → (a ≡ a') × AreTwins ks ks'
    go None e =
        let m = x.none e in
        let n = y.none (none_twins hs hs' t k e) in
        (m.1 ∙ sym n.1, same_twins hs hs' ks ks' t m.0 n.0)
    go (Some g) e =
        let m = x.step (ap is_some e) in
        let n = y.step (some_twins hs hs' t k ∙ ap is_some e) in
        let one = on_heap_decided k c hs hs' ks ks' is t a a' m.0 n.0 m.1 n.1 in
        (one.0, one.2)

-- and where the range of a place is live
size_decided : (p : Place) (c : tickets.Call) (hs hs' ks ks' : Heaps) → state.IsWellFormed hs → AreTwins hs hs' → (r r' : Option Bool) → TakesAt p c hs ks r → TakesAt p c hs' ks' r' → (r ≡ r') × AreTwins ks ks'
size_decided p c hs hs' ks ks' is t None None x y = (refl, same_twins hs hs' ks ks' t (x.not_live refl) (y.not_live refl))
size_decided p c hs hs' ks ks' is t None (Some d) x y = absurd (let e : false ≡ true = x.live.1 (subst (λ o. is_some o ≡ true) (range_twins hs hs' t p) (y.live.0 refl)) in cc)
size_decided p c hs hs' ks ks' is t (Some d) None x y = absurd (let e : false ≡ true = y.live.1 (subst (λ o. is_some o ≡ true) (sym (range_twins hs hs' t p)) (x.live.0 refl)) in cc)
size_decided p c hs hs' ks ks' is t (Some d) (Some d') x y =
    let one = on_heap_decided p.heap c hs hs' ks ks' is t (tickets.Answer.Resized (Some d)) (tickets.Answer.Resized (Some d')) [] [] (x.step refl) (y.step refl) in
    let e = one.0 in
    (cc, one.2)

-- ---- fewer units
can_retract_twin : (limits : Limits) (k less : ℕ) (g h : Guard) → IsTwin g h → (least_units limits k + less ≤ g.space.size) × (1 ≤ less → CanRetract less g.space)
    → (least_units limits k + less ≤ h.space.size) × (1 ≤ less → CanRetract less h.space)
can_retract_twin limits k less g h t can = subst (λ (z : Guard). (least_units limits k + less ≤ z.space.size) × (1 ≤ less → CanRetract less z.space)) (sym (as_twin g h t)) can

retracts_twins : (limits : Limits) (k less : ℕ) (r r' : Bool) (g g' h h' : Guard) → IsWellFormed g.space → IsTwin g g' → RetractsTo limits k less r g h → RetractsTo limits k less r' g' h' → (r ≡ r') × IsTwin h h'
retracts_twins limits k less true false g g' h h' known t x y = absurd (let e : false ≡ true = y.done.1 (can_retract_twin limits k less g g' t (x.done.0 refl)) in cc)
retracts_twins limits k less false true g g' h h' known t x y = absurd (let e : false ≡ true = x.done.1 (can_retract_twin limits k less g' g (twin_sym g g' t) (y.done.0 refl)) in cc)
retracts_twins limits k less false false g g' h h' known t x y = (
  refl,
  twin_trans h g h' (twin_sym g h (same_twin g h (unretracted less g h (x.same refl)))) (twin_trans g g' h' t (same_twin g' h' (unretracted less g' h' (y.same refl)))),
)
retracts_twins limits k less true true g g' h h' known t x y =
    let e = answers_decided (tickets.Call.Retract less) g g' h h' known t (tickets.Answer.Was_done true) (tickets.Answer.Was_done true) [] [] (true, refl, x.step refl, refl) (true, refl, y.step refl, refl) in
    (refl, e.2)

retracts_decided : (k less : ℕ) (hs hs' ks ks' : Heaps) → state.IsWellFormed hs → AreTwins hs hs' → (r r' : Bool) → Alters k (RetractsTo hs.limits k less r) hs ks → Alters k (RetractsTo hs'.limits k less r') hs' ks'
    → (r ≡ r') × AreTwins ks ks'
retracts_decided k less hs hs' ks ks' is t r r' x y =
    let P : Guard → Guard → Type 0 = RetractsTo hs.limits k less r in
    let Q : Guard → Guard → Type 0 = RetractsTo hs'.limits k less r' in
    let before = before_twins k P Q hs hs' ks ks' t x y in
    let by = subst (λ (l : Limits). RetractsTo l k less r' y.before y.after) t.limits y.by in
    let e = retracts_twins hs.limits k less r r' x.before y.before x.after y.after (known_at hs (known hs is) k x.before x.heap) before x.by by in
    (e.0, alters_twins k P Q hs hs' ks ks' t x y e.1)

-- ---- more units
can_extend_twins : (k more : ℕ) (hs ks : Heaps) → AreTwins hs ks → CanExtendIn hs.limits k more (heap_at k hs) → CanExtendIn ks.limits k more (heap_at k ks)
can_extend_twins k more hs ks t can =
    let Can : Option Guard → Type 0 = CanExtendIn hs.limits k more in
    subst (λ (l : Limits). CanExtendIn l k more (heap_at k ks)) (sym t.limits) (in_twin Can (heap_at k hs) (heap_at k ks) (λ g h u x. subst (λ (z : Guard). Can (Some z)) (sym (as_twin g h u)) x) (t.heaps k) can)

can_there : (limits : Limits) (k more : ℕ) (o : Option Guard) → CanExtendIn limits k more o → IsSome o
can_there limits k more None can = absurd can
can_there limits k more (Some g) can = refl

must_extend_twin : (limits : Limits) (k more : ℕ) (g h : Guard) → IsTwin g h → MustExtend limits k more g → MustExtend limits k more h
must_extend_twin limits k more g h t must = subst (MustExtend limits k more) (sym (as_twin g h t)) must

lengthens_decided : (k more : ℕ) (hs hs' ks ks' : Heaps) → state.IsWellFormed hs → AreTwins hs hs' → (r r' : Result Bool AllocError) → ExtendsOne k more hs ks r → ExtendsOne k more hs' ks' r'
    → ((e : AllocError) → r ≡ Err e → ⊥) → ((e : AllocError) → r' ≡ Err e → ⊥) → (r ≡ r') × AreTwins ks ks'
lengthens_decided k more hs hs' ks ks' is t (Err e) r' x y m n = absurd (m e refl)
lengthens_decided k more hs hs' ks ks' is t (Ok d) (Err e) x y m n = absurd (n e refl)
lengthens_decided k more hs hs' ks ks' is t (Ok true) (Ok false) x y m n =
    absurd (let e : false ≡ true = y.done.1 (can_extend_twins k more hs hs' t (x.done.0 refl)) in cc)
lengthens_decided k more hs hs' ks ks' is t (Ok false) (Ok true) x y m n =
    absurd (let e : false ≡ true = x.done.1 (can_extend_twins k more hs' hs (twins_sym hs hs' t) (y.done.0 refl)) in cc)
lengthens_decided k more hs hs' ks ks' is t (Ok false) (Ok false) x y m n =
    (refl, twins_trans ks hs ks' (twins_sym hs ks (x.refused refl)) (twins_trans hs hs' ks' t (y.refused refl)))
lengthens_decided k more hs hs' ks ks' is t (Ok true) (Ok true) x y m n =
    let P = ExtendsIf hs.limits k more true in
    let Q = ExtendsIf hs'.limits k more true in
    let a = x.step (can_there hs.limits k more (heap_at k hs) (x.done.0 refl)) in
    let b = y.step (can_there hs'.limits k more (heap_at k hs') (y.done.0 refl)) in
    let before = before_twins k P Q hs hs' ks ks' t a b in
    let well = known_at hs (known hs is) k a.before a.heap in
    let between = where_twins (MustExtend hs.limits k more) hs.limits (must_extend_twin hs.limits k more) a.before b.before a.by.between b.by.between before (twin_sym a.before b.before before) a.by.raised
    (subst (λ (l : Limits). IsRaisedWhere (MustExtend l k more) l b.before b.by.between) t.limits b.by.raised) in
    let one = extends_decided more a.by.between.space b.by.between.space a.after.space b.after.space (where_formed (MustExtend hs.limits k more) hs.limits k (λ g must. (must.2.0, must.2.1)) a.before a.by.between a.by.raised well) between.space true true a.by.by.step b.by.by.step in (
      refl,
      alters_twins k P Q hs hs' ks ks' t a b (kept_twins a.before b.before a.after b.after before (serials_longer hs.limits k more true a.before a.after a.by)
          (serials_longer hs'.limits k more true b.before b.after b.by) (λ u. ap is_some (range_longer hs.limits k more true a.before a.after a.by u)) one.1),
    )

-- what compacting leaves of two twins
compact_twins : (g g' h h' : Guard) → IsTwin g g' → CompactsIn g h → CompactsIn g' h' → IsTwin h h'
compact_twins g g' h h' twin f f' = elim (cases_lt 0 g.step) [
  | inl some ↦
      let some' : 1 ≤ g'.step = omega (arith, some, twin.step) in
      let k : CompactsBy g.step g'.space h'.space (can_compact g') = subst (λ n. CompactsBy n g'.space h'.space (can_compact g')) twin.step (f'.step some') in
      slid_twins g g' h h' twin f.serials f'.serials f.sizes (compacts_by_decided g.step g.space g'.space h.space h'.space twin.space (can_compact g) (can_compact g') (f.step some) k).1
  | inr lack ↦ subst₂ IsTwin (sym (f.none (omega (arith, lack)))) (sym (f'.none (omega (arith, lack, twin.step)))) twin
]

can_twin : (g h : Guard) → IsTwin g h → can_compact h ≡ can_compact g
can_twin g h t = ap can_compact (as_twin g h t)

slid_in : (g h : Guard) (r : Bool) (ms : List Move) → tickets.Answers tickets.Call.Compact g h (tickets.Answer.Was_done r) ms → CompactsIn g h × (r ≡ can_compact g)
slid_in g h r ms a =
    let e = a.1 in
    let same : r ≡ a.0 = cc in
    let x = a.2 in
    let is : a.0 ≡ can_compact g = done_is g h a.0 x.step x.none in
    (compacts g h a.0 is x.step x.none x.serials x.sizes x.aligned x.accesses_max, same ∙ is)

pub compacts_one_decided : (k : ℕ) (hs hs' ks ks' : Heaps) → AreTwins hs hs' → (r r' : Bool)
    → TakesWhere k tickets.Call.Compact (tickets.Answer.Was_done false) hs ks (tickets.Answer.Was_done r)
    → TakesWhere k tickets.Call.Compact (tickets.Answer.Was_done false) hs' ks' (tickets.Answer.Was_done r') → (r ≡ r') × AreTwins ks ks'
compacts_one_decided k hs hs' ks ks' t r r' x y = go (heap_at k hs) refl
  where
    go : (o : Option Guard) → heap_at k hs ≡ o → (r ≡ r') × AreTwins ks ks'
    go None e =
        let m = x.none e in
        let n = y.none (none_twins hs hs' t k e) in
        let f = m.1 ∙ sym n.1 in
        (cc, same_twins hs hs' ks ks' t m.0 n.0)
    go (Some g) e =
        let m = x.step (ap is_some e) in
        let n = y.step (some_twins hs hs' t k ∙ ap is_some e) in
        let a = m.1 in
        let b = n.1 in
        let P : Guard → Guard → Type 0 = λ g h. tickets.Answers tickets.Call.Compact g h (tickets.Answer.Was_done r) m.0 in
        let Q : Guard → Guard → Type 0 = λ g h. tickets.Answers tickets.Call.Compact g h (tickets.Answer.Was_done r') n.0 in
        let before = before_twins k P Q hs hs' ks ks' t a b in
        let c = slid_in a.before a.after r m.0 a.by in
        let d = slid_in b.before b.after r' n.0 b.by in
        (c.1 ∙ sym (can_twin a.before b.before before) ∙ sym d.1, alters_twins k P Q hs hs' ks ks' t a b (compact_twins a.before b.before a.after b.after before c.0 d.0))

compacted_twins : (o o' p p' : Option Guard) → IsTwinIn o o' → CompactsSlot o p → CompactsSlot o' p' → IsTwinIn p p'
compacted_twins None o' p p' twin f f' =
    let none : p' ≡ None = subst (λ o. CompactsSlot o p') twin f' in
    subst (λ p. IsTwinIn p p') (sym f) none
compacted_twins (Some g) o' p p' twin f f' =
    let k : CompactsSlot (Some twin.0) p' = subst (λ o. CompactsSlot o p') twin.1 f' in
    twin_some f.0 k.0 p p' f.1 k.1 (compact_twins g twin.0 f.0 k.0 twin.2 f.2 k.2)

-- all slots change, and nothing else
slots_twins : (hs hs' ks ks' : Heaps) → AreTwins hs hs' → ks ≡ record hs { slots = ks.slots; accesses = ks.accesses } → ks' ≡ record hs' { slots = ks'.slots; accesses = ks'.accesses }
    → ((k : ℕ) → IsTwinIn (heap_at k ks) (heap_at k ks')) → AreTwins ks ks'
slots_twins hs hs' ks ks' t e f heaps = subst₂ AreTwins (sym e) (sym f) (record { limits = t.limits; made = t.made; realm = t.realm; heaps = heaps })

compacts_all_twins : (hs hs' ks ks' : Heaps) → AreTwins hs hs' → CompactsAll hs ks → CompactsAll hs' ks' → AreTwins ks ks'
compacts_all_twins hs hs' ks ks' t x y =
    slots_twins hs hs' ks ks' t x.rest y.rest (λ k. compacted_twins (heap_at k hs) (heap_at k hs') (heap_at k ks) (heap_at k ks') (t.heaps k) (x.heaps k) (y.heaps k))

pub compacts_all_decided : (hs hs' ks ks' : Heaps) → AreTwins hs hs' → (r r' : Bool) → CompactsEach hs ks r → CompactsEach hs' ks' r' → (r ≡ r') × AreTwins ks ks'
compacts_all_decided hs hs' ks ks' t r r' x y = (one r r' x.done y.done, compacts_all_twins hs hs' ks ks' t x.step y.step)
  where
    All : Heaps → Type 0
    All h = (k : ℕ) → IsCompactible (heap_at k h)

    there : All hs → All hs'
    there all k = in_twin IsCompactible (heap_at k hs) (heap_at k hs') (λ g h u can. can_twin g h u ∙ can) (t.heaps k) (all k)

    back : All hs' → All hs
    back all k = in_twin IsCompactible (heap_at k hs') (heap_at k hs) (λ g h u can. can_twin g h u ∙ can) ((twins_sym hs hs' t).heaps k) (all k)

    one : (r r' : Bool) → IsTrue r ↔ All hs → IsTrue r' ↔ All hs' → r ≡ r'
    one true true f k = refl
    one false false f k = refl
    one true false f k = absurd (let e : false ≡ true = k.1 (there (f.0 refl)) in cc)
    one false true f k = absurd (let e : false ≡ true = f.1 (back (k.0 refl)) in cc)

-- ---- second ranges
module _ (p : Place) (hs ks : Heaps) (t : AreTwins hs ks) where
  size_twins : size_of p ks ≡ size_of p hs
  size_twins = ap units_in (range_twins hs ks t p)

  live_twins : (k : ℕ) → live_units_at k ks ≡ live_units_at k hs
  live_twins k = option_twin (part live_units_of) (heap_at k hs) (heap_at k ks) (λ g h u. ap live_units_of (as_twin g h u)) (t.heaps k)

  takes_twins : (align k : ℕ) → TakesRange p align hs k → TakesRange p align ks k
  takes_twins align k takes = (
    subst (λ o. is_some o ≡ true) (sym (range_twins hs ks t p)) takes.0,
    record {
      other = takes.1.other;
      room = let room = takes.1.room in omega (arith, room, size_twins, room_twins hs ks t (blocks_needed align) k);
      stays = λ must. takes.1.stays (must_in_twins ks hs (twins_sym hs ks t) k (blocks_needed align) must);
      full = let full = takes.1.full in omega (arith, full, live_twins p.heap, live_twins k);
      before = λ none. elim (takes.1.before (sym size_twins ∙ none)) [ inl more ↦ inl (omega (arith, more, live_twins p.heap, live_twins k)) | inr lower ↦ inr lower ];
    },
  )

relocates_decided : (p : Place) (align : ℕ) (hs hs' ks ks' : Heaps) → state.IsWellFormed hs → AreTwins hs hs' → (r r' : Option Granted) → Relocates p align hs ks r → Relocates p align hs' ks' r' → (r ≡ r') × AreTwins ks ks'
relocates_decided p align hs hs' ks ks' is t None None x y = (refl, same_twins hs hs' ks ks' t (x.same refl) (y.same refl))
relocates_decided p align hs hs' ks ks' is t None (Some h) x y = absurd (x.none.0 refl h.place.heap (takes_twins p hs' hs (twins_sym hs hs' t) align h.place.heap y.first.0))
relocates_decided p align hs hs' ks ks' is t (Some g) None x y = absurd (y.none.0 refl g.place.heap (takes_twins p hs hs' t align g.place.heap x.first.0))
relocates_decided p align hs hs' ks ks' is t (Some g) (Some h) x y =
    let s = twins_sym hs hs' t in
    let number = one_first (TakesRange p align hs) g.place.heap h.place.heap x.first.0 x.first.1 (takes_twins p hs' hs s align h.place.heap y.first.0) (λ i l u. y.first.1 i l (takes_twins p hs hs' t align i u)) in
    let Call : Ticket → Guard → Guard → Type 0 = λ t g h. tickets.AllocatesAligned (size_of p hs) align g h (Some t) in
    let all = grants_decided Call (aligned_decided (size_of p hs) align) (size_of p hs) align hs hs' ks ks' g h (λ e. absurd (let new : false ≡ true = sym x.found ∙ e in cc)) (known hs is) t number (x.found ∙ sym y.found) x.grants
    (subst (λ n. Grants n align hs' ks' h) (size_twins p hs hs' t) y.grants) in
    (ap Some all.0, all.1)

-- at what the range has in common with the step of its heap
step_twins : (k : ℕ) (hs hs' : Heaps) → AreTwins hs hs' → step_at k hs' ≡ step_at k hs
step_twins k hs hs' t = option_twin (part step_of) (heap_at k hs) (heap_at k hs') (λ g h u. u.step) (t.heaps k)

own_twins : (p : Place) (align : ℕ) (hs hs' : Heaps) → AreTwins hs hs' → IsOwnAlign p hs' align → IsOwnAlign p hs align
own_twins p align hs hs' t own = subst₂ (λ (n s : ℕ). IsGcd n s align) (ap offset_in (range_twins hs hs' t p)) (step_twins p.heap hs hs' t) own

relocates_own_decided : (p : Place) (hs hs' ks ks' : Heaps) → state.IsWellFormed hs → AreTwins hs hs' → (r r' : Option Granted) → RelocatesOwn p hs ks r → RelocatesOwn p hs' ks' r' → (r ≡ r') × AreTwins ks ks'
relocates_own_decided p hs hs' ks ks' is t r r' x y = elim (cases_lt 0 (step_at p.heap hs)) [
  | inr lack ↦ stays (x.none (omega (arith, lack))) (y.none (omega (arith, lack, step_twins p.heap hs hs' t)))
  | inl some ↦ elim (cases_Bool (is_some (range_of p hs))) [
    | inr dead ↦
        stays (x.not_live (λ live. absurd (let e : true ≡ false = sym live ∙ dead in cc)))
        (y.not_live (λ live. absurd (let e : true ≡ false = sym live ∙ ap is_some (range_twins hs hs' t p) ∙ dead in cc)))
    | inl live ↦
        let a = x.step live some in
        let b = y.step (ap is_some (range_twins hs hs' t p) ∙ live) (omega (arith, some, step_twins p.heap hs hs' t)) in
        let one : b.0 ≡ a.0 = same_from_IsGcd (offset_of p hs) (step_at p.heap hs) b.0 a.0 (own_twins p b.0 hs hs' t b.1) a.1 in
        relocates_decided p a.0 hs hs' ks ks' is t r r' a.2 (subst (λ n. Relocates p n hs' ks' r') one b.2)
  ]
]
  where
    stays : r ≡ None → r' ≡ None → (r ≡ r') × AreTwins ks ks'
    stays e f = (e ∙ sym f, same_twins hs hs' ks ks' t (x.same e) (y.same f))

-- ---- heaps that are dropped
empty_twins : (hs ks : Heaps) → AreTwins hs ks → (k : ℕ) → is_empty (heap_at k ks) ≡ is_empty (heap_at k hs)
empty_twins hs ks t k = option_twin is_empty (heap_at k hs) (heap_at k ks) (λ g h u. ap (λ (z : Guard). is_empty (Some z)) (as_twin g h u)) (t.heaps k)

empties_twins : (hs ks : Heaps) → AreTwins hs ks → empties ks.slots ≡ empties hs.slots
empties_twins hs ks t =
    let one : Guard → ℕ = λ g. if nat_eq (count_used g.space.blocks) 0 then 1 else 0 in
    total_twins one ks.slots hs.slots (λ k. option_twin (part one) (heap_at k hs) (heap_at k ks) (λ g h u. ap one (as_twin g h u)) (t.heaps k))

gone_twins : (k : ℕ) (hs hs' ks ks' : Heaps) → AreTwins hs hs' → is_some (heap_at k hs) ≡ true → is_some (heap_at k hs') ≡ true → Puts k None hs ks → Puts k None hs' ks' → AreTwins ks ks'
gone_twins k hs hs' ks ks' t there there' e f = puts_twins k None None hs hs' ks ks' t (slot_there hs.slots k there) (slot_there hs'.slots k there') refl e f

pub drops_decided : (k : ℕ) (hs hs' ks ks' : Heaps) → AreTwins hs hs' → (r r' : Bool) → Drops k hs ks r → Drops k hs' ks' r' → (r ≡ r') × AreTwins ks ks'
drops_decided k hs hs' ks ks' t false false x y = (refl, same_twins hs hs' ks ks' t (x.same refl) (y.same refl))
drops_decided k hs hs' ks ks' t true false x y = absurd (let e : false ≡ true = y.done.1 (empty_twins hs hs' t k ∙ x.done.0 refl) in cc)
drops_decided k hs hs' ks ks' t false true x y = absurd (let e : false ≡ true = x.done.1 (sym (empty_twins hs hs' t k) ∙ y.done.0 refl) in cc)
drops_decided k hs hs' ks ks' t true true x y = (
  refl,
  gone_twins k hs hs' ks ks' t (empty_there (heap_at k hs) (x.done.0 refl)) (empty_there (heap_at k hs') (y.done.0 refl)) (x.heaps refl) (y.heaps refl),
)

pub gives_up_decided : (k : ℕ) (hs hs' ks ks' : Heaps) → AreTwins hs hs' → (r r' : Bool) → GivesUp k hs ks r → GivesUp k hs' ks' r' → (r ≡ r') × AreTwins ks ks'
gives_up_decided k hs hs' ks ks' t false false x y = (refl, same_twins hs hs' ks ks' t (x.same refl) (y.same refl))
gives_up_decided k hs hs' ks ks' t true false x y = absurd (let e : false ≡ true = y.done.1 (some_twins hs hs' t k ∙ x.done.0 refl) in cc)
gives_up_decided k hs hs' ks ks' t false true x y = absurd (let e : false ≡ true = x.done.1 (sym (some_twins hs hs' t k) ∙ y.done.0 refl) in cc)
gives_up_decided k hs hs' ks ks' t true true x y = (refl, gone_twins k hs hs' ks ks' t (x.done.0 refl) (y.done.0 refl) (x.heaps refl) (y.heaps refl))

-- of the last empty ones there is one
no_later : (hs hs' : Heaps) (k j : ℕ) → AreTwins hs hs' → ((i : ℕ) → k < i → is_empty (heap_at i hs) ≡ false) → is_empty (heap_at j hs') ≡ true → k < j → ⊥
no_later hs hs' k j t last empty l = let e : true ≡ false = sym empty ∙ empty_twins hs hs' t j ∙ last j l in cc

pub drops_empty_decided : (keep : ℕ) (hs hs' ks ks' : Heaps) → AreTwins hs hs' → (r r' : Option ℕ) → DropsEmpty keep hs ks r → DropsEmpty keep hs' ks' r' → (r ≡ r') × AreTwins ks ks'
drops_empty_decided keep hs hs' ks ks' t None None x y = (refl, same_twins hs hs' ks ks' t (x.same refl) (y.same refl))
drops_empty_decided keep hs hs' ks ks' t (Some k) None x y = absurd (let e = x.kept.1 (subst (λ n. n ≤ keep) (empties_twins hs hs' t) (y.kept.0 refl)) in cc)
drops_empty_decided keep hs hs' ks ks' t None (Some k) x y = absurd (let e = y.kept.1 (subst (λ n. n ≤ keep) (sym (empties_twins hs hs' t)) (x.kept.0 refl)) in cc)
drops_empty_decided keep hs hs' ks ks' t (Some k) (Some j) x y =
    let one : k ≡ j = elim (cases_lt k j) [
      | inl l ↦ absurd (no_later hs hs' k j t x.last y.empty l)
      | inr m ↦ elim (cases_lt j k) [ inl l ↦ absurd (no_later hs' hs j k (twins_sym hs hs' t) y.last x.empty l) | inr n ↦ omega (arith, m, n) ]
    ] in (
      ap Some one,
      gone_twins k hs hs' ks ks' t (empty_there (heap_at k hs) x.empty) (empty_there (heap_at k hs') (ap (λ i. is_empty (heap_at i hs')) one ∙ y.empty)) x.heaps
          (subst (λ i. Puts i None hs' ks') (sym one) y.heaps),
    )

-- ---- resets
resets_decided : (hs hs' ks ks' : Heaps) → state.IsWellFormed hs → AreTwins hs hs' → ResetsAll hs ks → ResetsAll hs' ks' → AreTwins ks ks'
resets_decided hs hs' ks ks' is t x y =
    slots_twins hs hs' ks ks' t x.rest y.rest (λ k. reset_twins (heap_at k hs) (heap_at k hs') (heap_at k ks) (heap_at k ks') ((known hs is).heaps k) (t.heaps k) (x.heaps k) (y.heaps k))

-- ---- the emptiest heap
lives_twins : (hs ks : Heaps) → AreTwins hs ks → (k : ℕ) → HasLive (heap_at k hs) → HasLive (heap_at k ks)
lives_twins hs ks t k = in_twin HasLive (heap_at k hs) (heap_at k ks) (λ g h u live. subst (λ (z : Guard). HasLive (Some z)) (sym (as_twin g h u)) live) (t.heaps k)

not_fewer : (hs hs' : Heaps) (n k j : ℕ) → AreTwins hs hs' → IsEmptiest n hs.slots k → IsEmptiest n hs'.slots j → k < j → ⊥
not_fewer hs hs' n k j t x y l =
    let s = twins_sym hs hs' t in
    let later = x.last j l y.before (lives_twins hs' hs s j y.live) in
    let fewest = y.fewest k x.before (lives_twins hs hs' t k x.live) in
    let p : Place = record { heap = 0; realm = 0; name = 0; serial = 0; heap_realm = 0 } in
    omega (arith, later, fewest, live_twins p hs hs' t k, live_twins p hs hs' t j)

pub emptiest_decided : (hs hs' : Heaps) → AreTwins hs hs' → (r r' : Option ℕ) → MatchOption r (NoneLive (numbers hs) hs.slots) (IsEmptiest (numbers hs) hs.slots)
    → MatchOption r' (NoneLive (numbers hs') hs'.slots) (IsEmptiest (numbers hs') hs'.slots) → r ≡ r'
emptiest_decided hs hs' t r r' x y' = go r r' x y
  where
    n : ℕ
    n = numbers hs

    y : MatchOption r' (NoneLive n hs'.slots) (IsEmptiest n hs'.slots)
    y = subst (λ l. MatchOption r' (NoneLive (l.most + l.most_larger) hs'.slots) (IsEmptiest (l.most + l.most_larger) hs'.slots)) t.limits y'

    go : (r r' : Option ℕ) → MatchOption r (NoneLive n hs.slots) (IsEmptiest n hs.slots) → MatchOption r' (NoneLive n hs'.slots) (IsEmptiest n hs'.slots) → r ≡ r'
    go None None x y = refl
    go None (Some j) x y = absurd (x j y.before (lives_twins hs' hs (twins_sym hs hs' t) j y.live))
    go (Some k) None x y = absurd (y k x.before (lives_twins hs hs' t k x.live))
    go (Some k) (Some j) x y = elim (cases_lt k j) [
      | inl l ↦ absurd (not_fewer hs hs' n k j t x y l)
      | inr m ↦ elim (cases_lt j k) [ inl l ↦ absurd (not_fewer hs' hs n j k (twins_sym hs hs' t) y x l) | inr q ↦ ap Some (omega (arith, m, q)) ]
    ]

-- ---- the numbers of all heaps
largest_twins : (l m : Limits) (n : ℕ) (xs ys : List (Option Guard)) → ((k : ℕ) → room_of l (n + k) 1 (slot k xs) ≡ room_of m (n + k) 1 (slot k ys)) → largest_room l n xs ≡ largest_room m n ys
largest_twins l m n xs ys e = go n xs ys e
  where
    here : (n : ℕ) (xs ys : List (Option Guard)) → ((k : ℕ) → room_of l (n + k) 1 (slot k xs) ≡ room_of m (n + k) 1 (slot k ys)) → room_of l n 1 (slot 0 xs) ≡ room_of m n 1 (slot 0 ys)
    here n xs ys e = let zero : n + 0 ≡ n = omega arith in subst (λ j. room_of l j 1 (slot 0 xs) ≡ room_of m j 1 (slot 0 ys)) zero (e 0)

    next : (n : ℕ) (xs ys : List (Option Guard)) → ((k : ℕ) → room_of l (n + suc k) 1 (slot (suc k) xs) ≡ room_of m (n + suc k) 1 (slot (suc k) ys))
        → (k : ℕ) → room_of l (n + 1 + k) 1 (slot (suc k) xs) ≡ room_of m (n + 1 + k) 1 (slot (suc k) ys)
    next n xs ys e k = let one : n + suc k ≡ n + 1 + k = omega arith in subst (λ j. room_of l j 1 (slot (suc k) xs) ≡ room_of m j 1 (slot (suc k) ys)) one (e k)

    go : (n : ℕ) (xs ys : List (Option Guard)) → ((k : ℕ) → room_of l (n + k) 1 (slot k xs) ≡ room_of m (n + k) 1 (slot k ys)) → largest_room l n xs ≡ largest_room m n ys
    go n [] [] e = refl
    go n [] (y ∷ ys) e = let first = here n [] (y ∷ ys) e in let rest = go (n + 1) [] ys (next n [] (y ∷ ys) (λ k. e (suc k))) in omega (arith, first, rest)
    go n (x ∷ xs) [] e = let first = here n (x ∷ xs) [] e in let rest = go (n + 1) xs [] (next n (x ∷ xs) [] (λ k. e (suc k))) in omega (arith, first, rest)
    go n (x ∷ xs) (y ∷ ys) e = let first = here n (x ∷ xs) (y ∷ ys) e in let rest = go (n + 1) xs ys (next n (x ∷ xs) (y ∷ ys) (λ k. e (suc k))) in omega (arith, first, rest)

pub totals_decided : (hs hs' : Heaps) → AreTwins hs hs' → (r r' : Totals) → AreTotals r hs.limits hs.slots → AreTotals r' hs'.limits hs'.slots → r ≡ r'
totals_decided hs hs' t r r' x y =
    let same : (f : Guard → ℕ) → ((g h : Guard) → IsTwin g h → f h ≡ f g) → total f hs.slots ≡ total f hs'.slots = λ f each.
    sym (total_twins f hs'.slots hs.slots (λ k. option_twin (part f) (heap_at k hs) (heap_at k hs') each (t.heaps k))) in
    let heaps : r.heaps ≡ r'.heaps = x.heaps ∙ same (λ g. 1) (λ g h u. refl) ∙ sym y.heaps in
    let units : r.units ≡ r'.units = x.units ∙ same units_of_heap (λ g h u. ap units_of_heap (as_twin g h u)) ∙ sym y.units in
    let live : r.live_units ≡ r'.live_units = x.live_units ∙ same live_units_of (λ g h u. ap live_units_of (as_twin g h u)) ∙ sym y.live_units in
    let free : r.free_units ≡ r'.free_units = x.free_units ∙ same free_of (λ g h u. ap free_of (as_twin g h u)) ∙ sym y.free_units in
    let largest : r.largest_free_region ≡ r'.largest_free_region = x.largest ∙ sym (largest_twins hs'.limits hs.limits 0 hs'.slots hs.slots (λ k. let e : k ≡ 0 + k = omega arith in subst (λ j. room_of hs'.limits j 1 (slot k hs'.slots) ≡ room_of hs.limits j 1 (slot k hs.slots)) e (room_twins hs hs' t 1 k))) ∙ sym y.largest in
    ap₂ (λ (a b : ℕ). let z : Totals = record r { heaps = a; units = b } in z) heaps units
    ∙ ap₂ (λ (a b : ℕ). let z : Totals = record r { heaps = r'.heaps; units = r'.units; live_units = a; free_units = b } in z) live free
    ∙ ap (λ (a : ℕ). let z : Totals = record r' { largest_free_region = a } in z) largest

-- ---- lists of calls
pub takes_decided : (c : Call) (hs hs' ks ks' : Heaps) → state.IsWellFormed hs → AreTwins hs hs' → (r r' : Reply) → Takes c hs ks r → Takes c hs' ks' r' → (IsStarved r → ⊥) → (IsStarved r' → ⊥)
    → (r ≡ r') × AreTwins ks ks'
takes_decided (Allocate size align) hs hs' ks ks' is t r r' x y m n =
    let e = allocates_decided size align hs hs' ks ks' x.2 is t x.0 y.0 x.3 y.3 (λ q. m (inl (x.1 ∙ ap Requested q))) (λ q. n (inl (y.1 ∙ ap Requested q))) in
    (x.1 ∙ ap Requested e.0 ∙ sym y.1, e.1)
takes_decided (Allocate_tight size align) hs hs' ks ks' is t r r' x y m n =
    let e = tights_decided size align hs hs' ks ks' x.2 is t x.0 y.0 x.3 y.3 (λ q. m (inl (x.1 ∙ ap Requested q))) (λ q. n (inl (y.1 ∙ ap Requested q))) in
    (x.1 ∙ ap Requested e.0 ∙ sym y.1, e.1)
takes_decided (Free p) hs hs' ks ks' is t r r' x y m n = let e = free_decided p hs hs' ks ks' is t x.0 y.0 x.2 y.2 in (x.1 ∙ ap Was_done e.0 ∙ sym y.1, e.1)
takes_decided (Relocate p) hs hs' ks ks' is t r r' x y m n = let e = relocates_own_decided p hs hs' ks ks' is t x.0 y.0 x.2 y.2 in (x.1 ∙ ap Second e.0 ∙ sym y.1, e.1)
takes_decided (Relocate_aligned p align) hs hs' ks ks' is t r r' x y m n = let e = relocates_decided p align hs hs' ks ks' is t x.0 y.0 x.2 y.2 in (x.1 ∙ ap Second e.0 ∙ sym y.1, e.1)
takes_decided (Drop_empty keep) hs hs' ks ks' is t r r' x y m n = let e = drops_empty_decided keep hs hs' ks ks' t x.0 y.0 x.2 y.2 in (x.1 ∙ ap Dropped e.0 ∙ sym y.1, e.1)
takes_decided (Drop_heap k) hs hs' ks ks' is t r r' x y m n = let e = drops_decided k hs hs' ks ks' t x.0 y.0 x.2 y.2 in (x.1 ∙ ap Was_done e.0 ∙ sym y.1, e.1)
takes_decided (Give_up k) hs hs' ks ks' is t r r' x y m n = let e = gives_up_decided k hs hs' ks ks' t x.0 y.0 x.2 y.2 in (x.1 ∙ ap Was_done e.0 ∙ sym y.1, e.1)
takes_decided Reset hs hs' ks ks' is t r r' x y m n = (x.0 ∙ sym y.0, resets_decided hs hs' ks ks' is t x.1 y.1)
takes_decided (Shrink p size) hs hs' ks ks' is t r r' x y m n = let e = size_decided p (tickets.Call.Shrink (ticket_of p) size) hs hs' ks ks' is t x.0 y.0 x.2 y.2 in (x.1 ∙ ap Resized e.0 ∙ sym y.1, e.1)
takes_decided (Grow_in_place p size) hs hs' ks ks' is t r r' x y m n = let e = size_decided p (tickets.Call.Grow_in_place (ticket_of p) size) hs hs' ks ks' is t x.0 y.0 x.2 y.2 in (x.1 ∙ ap Resized e.0 ∙ sym y.1, e.1)
takes_decided (Extend_heap k more) hs hs' ks ks' is t r r' x y m n =
    let e = lengthens_decided k more hs hs' ks ks' is t x.0 y.0 x.2 y.2 (λ e q. m (inr (e, x.1 ∙ ap Extended q))) (λ e q. n (inr (e, y.1 ∙ ap Extended q))) in
    (x.1 ∙ ap Extended e.0 ∙ sym y.1, e.1)
takes_decided (Compact_heap k) hs hs' ks ks' is t r r' x y m n = let e = compacts_one_decided k hs hs' ks ks' t x.0 y.0 x.2 y.2 in (x.1 ∙ ap Was_done e.0 ∙ sym y.1, e.1)
takes_decided Compact_all hs hs' ks ks' is t r r' x y m n = let e = compacts_all_decided hs hs' ks ks' t x.0 y.0 x.2 y.2 in (x.1 ∙ ap Was_done e.0 ∙ sym y.1, e.1)
takes_decided (Make_room k size align) hs hs' ks ks' is t r r' x y m n =
    let e = where_decided k (tickets.Call.Make_room size align) (tickets.Answer.Room_made None) hs hs' ks ks' is t (tickets.Answer.Room_made x.0) (tickets.Answer.Room_made y.0) x.2 y.2 in
    let same = e.0 in
    (cc, e.1)
takes_decided (Retract_heap k less) hs hs' ks ks' is t r r' x y m n = let e = retracts_decided k less hs hs' ks ks' is t x.0 y.0 x.2 y.2 in (x.1 ∙ ap Was_done e.0 ∙ sym y.1, e.1)
takes_decided (On_heap k c) hs hs' ks ks' is t r r' x y m n = let e = on_heap_decided k c hs hs' ks ks' is t x.0 y.0 x.1 y.1 x.3 y.3 in (x.2 ∙ ap₂ Answered e.0 e.1 ∙ sym y.2, e.2)

pub taken_decided : (cs : List Call) (hs hs' ks ks' : Heaps) → state.IsWellFormed hs → AreTwins hs hs' → (rs rs' : List Reply) → TakesAll hs cs rs ks → TakesAll hs' cs rs' ks' → (rs ≡ rs') × AreTwins ks ks'
taken_decided [] hs hs' ks ks' is t [] [] x y = (refl, subst₂ AreTwins (sym x) (sym y) t)
taken_decided [] hs hs' ks ks' is t [] (r ∷ rs') x y = absurd y
taken_decided [] hs hs' ks ks' is t (r ∷ rs) rs' x y = absurd x
taken_decided (c ∷ cs) hs hs' ks ks' is t [] rs' x y = absurd x
taken_decided (c ∷ cs) hs hs' ks ks' is t (r ∷ rs) [] x y = absurd y
taken_decided (c ∷ cs) hs hs' ks ks' is t (r ∷ rs) (s ∷ rs') x y =
    let e = takes_decided c hs hs' x.0 y.0 is t r s x.1 y.1 x.2 y.2 in
    let later = taken_decided cs x.0 y.0 ks ks' x.3 e.1 rs rs' x.4 y.4 in
    (ap₂ (λ (a : Reply) (l : List Reply). a ∷ l) e.0 later.0, later.1)

-- ---- copies
quiet_twin : (g h : Guard) → record h { space = record h.space { accesses = 0 } } ≡ record g { space = record g.space { accesses = 0 } } → IsTwin g h
quiet_twin g h e = record {
  space = ap (λ (z : Guard). record z.space { accesses = h.space.accesses }) e;
  serials = λ x l. ap (λ (z : Guard). serial_of x z) e;
  given = ap (λ (z : Guard). z.given) e;
  realm = ap (λ (z : Guard). z.realm) e;
  step = ap (λ (z : Guard). z.step) e;
}

quiet_twins : (o p : Option Guard) → quiet p ≡ quiet o → IsTwinIn o p
quiet_twins None None e = refl
quiet_twins None (Some h) e = absurd (cc)
quiet_twins (Some g) None e = absurd (cc)
quiet_twins (Some g) (Some h) e = (h, refl, quiet_twin g h (cc))

pub same_are_twins : (hs ks : Heaps) → state.SameHeaps hs ks → AreTwins hs ks
same_are_twins hs ks e = record {
  limits = ap (λ (h : Heaps). h.limits) e;
  made = ap (λ (h : Heaps). h.made) e;
  realm = ap (λ (h : Heaps). h.realm) e;
  heaps = λ k. quiet_twins (heap_at k hs) (heap_at k ks) (sym (slot_quiet k ks.slots) ∙ ap (λ (h : Heaps). slot k h.slots) e ∙ slot_quiet k hs.slots);
}

pub copies_are_twins : (hs ks : Heaps) → state.IsCopy hs ks → AreTwins hs ks
copies_are_twins hs ks e = same_are_twins hs ks (ap state.uncounted e ∙ rested)
  where
    twice : (slots : List (Option Guard)) → map quiet (map quiet slots) ≡ map quiet slots
    twice [] = refl
    twice (None ∷ slots) = ap (λ (l : List (Option Guard)). None ∷ l) (twice slots)
    twice (Some g ∷ slots) = ap (λ (l : List (Option Guard)). quiet (Some g) ∷ l) (twice slots)

    rested : state.uncounted (state.uncounted hs) ≡ state.uncounted hs
    rested = ap (λ (l : List (Option Guard)). record hs { slots = l; accesses = 0 }) (twice hs.slots)
