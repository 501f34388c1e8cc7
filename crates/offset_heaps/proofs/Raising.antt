-- The node limit of a heap is raised before a grant: what it has room for and what is live in it stay.
use Rattle.std.proofs.Common.{◌≡◌, ◌↔◌, ℕ, zero, suc, ◌<◌, ◌≤◌, List, [], ◌∷◌, Option, Some, None, IfSome, Result, Ok, Err, IfOk, IsErr, length, slice_set, refl, sym, ap, ◌∙◌, subst, inl, inr, arith}
use Rattle.std.proofs.lemmas.Bool.{lt-ltb}
use Rattle.offset_allocator.specs.{Requests.CanGrant, View.IsWellFormed}
use Rattle.offset_allocator.proofs.Raised.{well_under}
use Rattle.offset_guarded.specs.Guard.{Guard, HasSerialLeft, Ticket}
use Rattle.offset_guarded.specs.Guard as guarded
use Rattle.offset_heaps.specs.declared.index.Index.{Index}
use Rattle.offset_heaps.specs.declared.limits.Limits.{Limits}
use Rattle.offset_heaps.specs.Heaps.{IsRaisedAsNeeded, IsRaisedWhere, IsOfKind, MustRaise, MustRaiseIn, raised_limit, room, room_of, slot}
use Rattle.offset_heaps.specs.{Slots.CanHoldIn, Slots.Changes, Slots.RaisesIn, Soundness.IsNoted, Soundness.IsSound, Soundness.empty_key, Soundness.spare_of}
use Rattle.offset_heaps.proofs.{Numbers.slot_same, Rooms.admitted, Rooms.room_grants, Rooms.top_above, Rooms.top_usual, Sound.sound_put, Sound.wide_put}

-- ---- a heap whose limit is raised where it must be
module _ (Must : Guard → Type 0) (limits : Limits) (k : ℕ) (may : (g : Guard) → Must g → (k < limits.most) × (g.space.max_allocs < limits.max_allocs)) where
  -- what does not depend on the limit
  pub where_same : {A : Type 0} (f : Guard → A) → ((limit : ℕ) (g : Guard) → f (record g { space = record g.space { max_allocs = limit; accesses = 0 } }) ≡ f g) → (g h : Guard)
      → IsRaisedWhere Must limits g h → f h ≡ f g
  where_same f same g h (inl up) = ap f up.1 ∙ same (raised_limit limits g) g
  where_same f same g h (inr kept) = ap f kept.1

  pub where_kind : (g h : Guard) → IsRaisedWhere Must limits g h → IsOfKind limits k g → IsOfKind limits k h
  where_kind g h (inr kept) kind = subst (IsOfKind limits k) (sym kept.1) kind
  where_kind g h (inl up) (inr larger) = absurd (omega (arith, (may g up.0).0, larger.0))
  where_kind g h (inl up) (inl usual) =
      let limit : h.space.max_allocs ≡ raised_limit limits g = ap (λ (z : Guard). z.space.max_allocs) up.1 in
      let size : h.space.size ≡ g.space.size = ap (λ (z : Guard). z.space.size) up.1 in
      let below = (may g up.0).1 in
      inl (usual.0, omega (arith, size, usual.1), (omega (arith, limit, below, usual.2.0), omega (arith, limit)))

  pub where_formed : (g h : Guard) → IsRaisedWhere Must limits g h → IsWellFormed g.space → IsWellFormed h.space
  where_formed g h (inr kept) w = subst (λ (z : Guard). IsWellFormed z.space) (sym kept.1) w
  where_formed g h (inl up) w =
      let v = well_under g.space (raised_limit limits g) (omega (arith, (may g up.0).1)) w in
      let u : IsWellFormed (record g.space { max_allocs = raised_limit limits g; accesses = 0 }) = record {
        some = v.some;
        distinct = v.distinct;
        below = v.below;
        whole = v.whole;
        fits = v.fits;
        apart = v.apart;
        classes = v.classes;
        binned = v.binned;
        room = v.room;
        few_used = v.few_used;
      } in
      subst (λ (z : Guard). IsWellFormed z.space) (sym up.1) u

-- ---- for the blocks of a grant
module _ (limits : Limits) (k blocks : ℕ) where
  abbrev Must : Guard → Type 0
  Must g = MustRaise limits k blocks g

  may : (g : Guard) → Must g → (k < limits.most) × (g.space.max_allocs < limits.max_allocs)
  may g must = (must.0, must.1)

  pub raised_kind : (g h : Guard) → IsRaisedAsNeeded limits k blocks g h → IsOfKind limits k g → IsOfKind limits k h
  raised_kind = where_kind Must limits k may

  pub raised_realm : (g h : Guard) → IsRaisedAsNeeded limits k blocks g h → h.realm ≡ g.realm
  raised_realm = where_same Must limits k may (λ (z : Guard). z.realm) (λ limit g. refl)

  pub raised_range : (t : Ticket) (g h : Guard) → IsRaisedAsNeeded limits k blocks g h → guarded.range_of t h ≡ guarded.range_of t g
  raised_range t = where_same Must limits k may (guarded.range_of t) (λ limit g. refl)

  pub raised_formed : (g h : Guard) → IsRaisedAsNeeded limits k blocks g h → IsWellFormed g.space → IsWellFormed h.space
  raised_formed = where_formed Must limits k may

  raised_empty : (g h : Guard) → IsRaisedAsNeeded limits k blocks g h → empty_key (Some h) ≡ empty_key (Some g)
  raised_empty = where_same Must limits k may (λ (z : Guard). empty_key (Some z)) (λ limit g. refl)

  -- the doubled limit need not be raised again
  pub raised_stays : (g h : Guard) → blocks ≤ 2 → IsWellFormed g.space → IsRaisedAsNeeded limits k blocks g h → MustRaise limits k blocks h → ⊥
  raised_stays g h few w (inr kept) must = kept.0 (subst (MustRaise limits k blocks) kept.1 must)
  raised_stays g h few w (inl up) must =
      let limit : h.space.max_allocs ≡ raised_limit limits g = ap (λ (z : Guard). z.space.max_allocs) up.1 in
      let same : length h.space.blocks ≡ length g.space.blocks = ap (λ (z : Guard). length z.space.blocks) up.1 in
      omega (arith, limit, same, must.1, must.2, few, w.room, w.few_used)

  -- and it has room for as much as before, since that is by the largest limit
  pub raised_room : (more : ℕ) (g h : Guard) → IsRaisedAsNeeded limits k blocks g h → room limits k more h ≡ room limits k more g
  raised_room more g h (inr kept) = ap (room limits k more) kept.1
  raised_room more g h (inl up) = ap (room limits k more) up.1 ∙ rw (lt-ltb k limits.most up.0.0) refl

  raised_holds : (size align : ℕ) (g h : Guard) → IsRaisedAsNeeded limits k blocks g h → CanHoldIn limits k size align (Some g) → CanHoldIn limits k size align (Some h)
  raised_holds size align g h (inr kept) held = subst (λ (z : Guard). CanHoldIn limits k size align (Some z)) (sym kept.1) held
  raised_holds size align g h (inl up) held =
      subst (λ (z : Guard). CanHoldIn limits k size align (Some z)) (sym up.1)
      (held.0, (let top = top_usual limits k g up.0.0 in let now = top_usual limits k (record g { space = record g.space { max_allocs = raised_limit limits g; accesses = 0 } }) up.0.0 in omega (arith, held.1, top, now)), held.2)

  -- it grants what it has room for
  pub raised_grants : (units : ℕ) (g h : Guard) → blocks ≤ 2 → IsWellFormed g.space → IsOfKind limits k g → IsRaisedAsNeeded limits k blocks g h → 1 ≤ units
      → (units ≤ room limits k blocks g) ↔ (HasSerialLeft g × CanGrant blocks units h.space)
  raised_grants units g h few w kind (inl up) some =
      let top = top_usual limits k g up.0.0 in
      room_grants limits k (raised_limit limits g) blocks units g h w up.1 (λ l. omega (arith, l, top, few, up.0.1, w.room, w.few_used), λ l. omega (arith, l, top)) some
  raised_grants units g h few w kind (inr kept) some =
      let own : Guard = record g { space = record g.space { accesses = 0 } } in
      let same : (units ≤ room limits k blocks g) ↔ (HasSerialLeft g × CanGrant blocks units own.space) =
      room_grants limits k g.space.max_allocs blocks units g own w refl (admitted limits k blocks g kind kept.0, λ l. omega (arith, l, top_above limits k g kind)) some in
      subst (λ (z : Guard). (units ≤ room limits k blocks g) ↔ (HasSerialLeft g × CanGrant blocks units z.space)) (sym kept.1) same

-- ---- the heap of a number
pub must_in : (limits : Limits) (k blocks : ℕ) (o : Option Guard) (g : Guard) → o ≡ Some g → MustRaise limits k blocks g → MustRaiseIn limits k blocks o
must_in limits k blocks o g e must = subst (MustRaiseIn limits k blocks) (sym e) must

pub raises_none : (limits : Limits) (k blocks : ℕ) (o : Option Guard) → blocks ≤ 2 → IfSome o (λ g. IsWellFormed g.space) → (new : Option Guard) → RaisesIn limits k blocks o new → MustRaiseIn limits k blocks new → ⊥
raises_none limits k blocks None few known new raises must = absurd (subst (MustRaiseIn limits k blocks) raises must)
raises_none limits k blocks (Some g) few known new raises must = raised_stays limits k blocks g raises.0 few known raises.2 (subst (MustRaiseIn limits k blocks) raises.1 must)

pub raises_kind : (limits : Limits) (k blocks : ℕ) (o new : Option Guard) → IfSome o (IsOfKind limits k) → RaisesIn limits k blocks o new → IfSome new (IsOfKind limits k)
raises_kind limits k blocks None new kind raises = subst (λ p. IfSome p (IsOfKind limits k)) (sym raises) tt
raises_kind limits k blocks (Some g) new kind raises = subst (λ p. IfSome p (IsOfKind limits k)) (sym raises.1) (raised_kind limits k blocks g raises.0 raises.2 kind)

pub raises_realm : (limits : Limits) (made k blocks : ℕ) (o new : Option Guard) → IfSome o (λ g. g.realm ≤ made) → RaisesIn limits k blocks o new → IfSome new (λ g. g.realm ≤ made)
raises_realm limits made k blocks None new below raises = subst (λ p. IfSome p (λ g. g.realm ≤ made)) (sym raises) tt
raises_realm limits made k blocks (Some g) new below raises = subst (λ p. IfSome p (λ g. g.realm ≤ made)) (sym raises.1) (omega (arith, below, raised_realm limits k blocks g raises.0 raises.2))

pub raises_room : (limits : Limits) (k blocks more : ℕ) (o new : Option Guard) → RaisesIn limits k blocks o new → room_of limits k more new ≡ room_of limits k more o
raises_room limits k blocks more None new raises = ap (room_of limits k more) raises
raises_room limits k blocks more (Some g) new raises = ap (room_of limits k more) raises.1 ∙ raised_room limits k blocks more g raises.0 raises.2

raises_holds : (limits : Limits) (k blocks size align : ℕ) (o new : Option Guard) → RaisesIn limits k blocks o new → CanHoldIn limits k size align o → CanHoldIn limits k size align new
raises_holds limits k blocks size align None new raises held = absurd held
raises_holds limits k blocks size align (Some g) new raises held = subst (CanHoldIn limits k size align) (sym raises.1) (raised_holds limits k blocks size align g raises.0 raises.2 held)

raises_keys : (limits : Limits) (k blocks : ℕ) (o new : Option Guard) → RaisesIn limits k blocks o new → (spare_of limits k new ≡ spare_of limits k o) × (empty_key new ≡ empty_key o)
raises_keys limits k blocks None new raises = (ap (spare_of limits k) raises, ap empty_key raises)
raises_keys limits k blocks (Some g) new raises = (ap (spare_of limits k) raises.1, ap empty_key raises.1 ∙ raised_empty limits k blocks g raises.0 raises.2)

-- the index says the same of it
pub raises_noted : (limits : Limits) (slots : List (Option Guard)) (index : Index) (k blocks : ℕ) (new : Option Guard) → k < length slots
    → RaisesIn limits k blocks (slot k slots) new → IsNoted limits slots index k → IsNoted limits (slice_set slots k new) index k
raises_noted limits slots index k blocks new there raises is =
    let same = slot_same slots k new there in
    let keys = raises_keys limits k blocks (slot k slots) new raises in
    record {
      one = is.one ∙ sym (raises_room limits k blocks 1 (slot k slots) new raises) ∙ ap (room_of limits k 1) (sym same);
      two = is.two ∙ sym (raises_room limits k blocks 2 (slot k slots) new raises) ∙ ap (room_of limits k 2) (sym same);
      spare = is.spare ∙ sym keys.0 ∙ ap (spare_of limits k) (sym same);
      empty = is.empty ∙ sym keys.1 ∙ ap empty_key (sym same);
    }

-- the heap of a number raises, or its memory is refused
module _ {A E : Type 0} (max : ℕ) (slots now : List (Option Guard)) (limits : Limits) (made : ℕ) (index : Index) (k blocks : ℕ) (there : k < length slots) (is : IsSound max slots limits made index) where
  pub sound_raised : (r : Result A E) → IfOk r (λ _. Changes k (RaisesIn limits k blocks) slots now) → (IsErr r → now ≡ slots) → IsSound max now limits made index
  sound_raised (Err e) change same = subst (λ s. IsSound max s limits made index) (sym (same refl)) is
  sound_raised (Ok u) change same = subst (λ s. IsSound max s limits made index) (sym change.slots)
      (sound_put max slots limits made made index index k change.now is (omega arith) (raises_realm limits made k blocks (slot k slots) change.now (is.realms k) change.by)
      (raises_kind limits k blocks (slot k slots) change.now (is.kinds k) change.by) there (wide_put slots index k change.now is.wide)
      (raises_noted limits slots index k blocks change.now there change.by (is.noted k)) (λ j n noted. noted) refl)

  pub stays_raised : (r : Result A E) → blocks ≤ 2 → IfSome (slot k slots) (λ g. IsWellFormed g.space) → IfOk r (λ _. Changes k (RaisesIn limits k blocks) slots now)
      → IfOk r (λ _. MustRaiseIn limits k blocks (slot k now) → ⊥)
  stays_raised (Err e) few known change = tt
  stays_raised (Ok u) few known change = λ must.
      raises_none limits k blocks (slot k slots) few known change.now change.by
      (subst (MustRaiseIn limits k blocks) (ap (slot k) change.slots ∙ slot_same slots k change.now there) must)

  pub rooms_raised : (r : Result A E) → IfOk r (λ _. Changes k (RaisesIn limits k blocks) slots now)
      → IfOk r (λ _. (more : ℕ) → room_of limits k more (slot k now) ≡ room_of limits k more (slot k slots))
  rooms_raised (Err e) change = tt
  rooms_raised (Ok u) change = λ more.
      ap (room_of limits k more) (ap (slot k) change.slots ∙ slot_same slots k change.now there) ∙ raises_room limits k blocks more (slot k slots) change.now change.by

  pub held_raised : (r : Result A E) → IfOk r (λ _. Changes k (RaisesIn limits k blocks) slots now)
      → IfOk r (λ _. (size align : ℕ) → CanHoldIn limits k size align (slot k slots) → CanHoldIn limits k size align (slot k now))
  held_raised (Err e) change = tt
  held_raised (Ok u) change = λ size align held.
      subst (CanHoldIn limits k size align) (sym (ap (slot k) change.slots ∙ slot_same slots k change.now there)) (raises_holds limits k blocks size align (slot k slots) change.now change.by held)

-- the heap of a grant, as it was before
pub set_twice : (slots : List (Option Guard)) (k : ℕ) (o new : Option Guard) → slice_set (slice_set slots k o) k new ≡ slice_set slots k new
set_twice [] k o new = refl
set_twice (s ∷ slots) zero o new = refl
set_twice (s ∷ slots) (suc k) o new = ap (λ (l : List (Option Guard)). s ∷ l) (set_twice slots k o new)
