-- A heap that a call changes in place keeps its realm, its node limit and the least units of its number: so the index and the
-- heaps stay right.
use Rattle.std.proofs.Common.{◌⊎◌, sym, subst, ◌≡◌, ◌↔◌, ℕ, ◌+◌, ◌≤◌, ◌^◌, IfSome, length, Bool, true, false, IsTrue, if◌then◌else◌, List, Option, Some, None, slice_set, is_some, refl, ap, ◌∙◌, inl, inr, arith}
use Rattle.std.proofs.lemmas.Bool.{cases_eq, cases_lt, le-ltb, lt-ltb}
use Rattle.offset_allocator.specs.Moving.{Retracting.CanRetract, Retracting.Retracts, Budget.CompactsWithin, BySteps.CompactsBy, Compacting.Move, Relocating.offset_of, Room.MakesRoom, RoomBySteps.MakesRoomBy}
use Rattle.offset_allocator.specs.{Ranges.size_of, Relations.Extends, Relations.SameState, Resizing.Grows, Resizing.Shrinks, Tight.AlignsTight, View.Handle, View.View}
use Rattle.offset_allocator.specs.declared.moves.over_frames.Progress.{Progress}
use Rattle.offset_allocator.specs.declared.moves.room.RoomCost.{RoomCost}
use Rattle.offset_guarded.specs.Guard.{Guard, Ticket}
use Rattle.offset_guarded.specs.Guard as guarded
use Rattle.offset_guarded.specs.Answers as tickets
use Rattle.offset_guarded.proofs.Divisors.{gcd_there}
use Rattle.offset_heaps.specs.declared.index.Index.{Index}
use Rattle.offset_heaps.specs.declared.limits.Limits.{Limits}
use Rattle.offset_heaps.specs.Changing.{AltersIn, CompactsSlot, can_compact}
use Rattle.offset_heaps.specs.{Heaps.IsOfKind, Heaps.least_units, Heaps.slot, Heaps.usual_size, Slots.Changes, Slots.ResetsIn, State.quiet, Soundness.IsNoted, Soundness.IsSound, Soundness.IsWide}
use Rattle.offset_heaps.proofs.{Numbers.slot_there, Sound.realm_kept, Sound.sound_put}

-- ---- what a call keeps
abbrev pub SameLimits : View → View → Type 0
SameLimits v w = (v.size ≤ w.size) × (w.max_allocs ≡ v.max_allocs)

pub record IsLimited (g h : Guard) : Type 0 where
  pub realm : h.realm ≡ g.realm
  pub space : SameLimits g.space h.space

both : (v w : View) → w.size ≡ v.size → w.max_allocs ≡ v.max_allocs → SameLimits v w
both v w size limit = (omega (arith, size), limit)

stays : (v w : View) → SameState v w → SameLimits v w
stays v w e = both v w (ap (λ (z : View). z.size) e) (ap (λ (z : View). z.max_allocs) e)

-- no serial changes
kept : (g h : Guard) → h ≡ record g { space = h.space } → SameLimits g.space h.space → IsLimited g h
kept g h e s = record { realm = ap (λ (z : Guard). z.realm) e; space = s }

same : (g h : Guard) → h ≡ g → IsLimited g h
same g h e = record { realm = ap (λ (z : Guard). z.realm) e; space = (let size = ap (λ (z : Guard). z.space.size) e in omega (arith, size), ap (λ (z : Guard). z.space.max_allocs) e) }

pub same_limited : (g h : Guard) → guarded.IsSame g h → IsLimited g h
same_limited g h s = record { realm = s.1.realm; space = stays g.space h.space s.0 }

-- ---- requests
granted : (n : ℕ) (g h : Guard) (t : Ticket) → guarded.Grants n g h t → h.space.size ≡ g.space.size → h.space.max_allocs ≡ g.space.max_allocs → IsLimited g h
granted n g h t s size limit = record { realm = s.realm.1; space = both g.space h.space size limit }

tight : (n align : ℕ) (v w : View) (h : Handle) → AlignsTight n align v w (Some h) → (w.size ≡ v.size) × (w.max_allocs ≡ v.max_allocs)
tight n align v w h (inl a) = (ap (λ (z : View). z.size) a.1.view, ap (λ (z : View). z.max_allocs) a.1.view)
tight n align v w h (inr f) = (ap (λ (z : View). z.size) f.1.1.3.view, ap (λ (z : View). z.max_allocs) f.1.1.3.view)

pub asks : (n : ℕ) (g h : Guard) (r : Option Ticket) → tickets.Allocates n g h r → IsLimited g h
asks n g h None a = same_limited g h (a.request.same refl)
asks n g h (Some t) a = let s = (a.step (a.can_grant.0 refl).0).1.view in granted n g h t a.request.grants (ap (λ (z : View). z.size) s) (ap (λ (z : View). z.max_allocs) s)

pub asks_aligned : (n align : ℕ) (g h : Guard) (r : Option Ticket) → tickets.AllocatesAligned n align g h r → IsLimited g h
asks_aligned n align g h None a = same_limited g h (a.request.same refl)
asks_aligned n align g h (Some t) a = let s = (a.step (a.can_grant.0 refl).0).1.view in granted n g h t a.request.grants (ap (λ (z : View). z.size) s) (ap (λ (z : View). z.max_allocs) s)

pub asks_tight : (n : ℕ) (g h : Guard) (r : Option Ticket) → tickets.AllocatesTight n g h r → IsLimited g h
asks_tight n g h None a = same_limited g h (a.request.same refl)
asks_tight n g h (Some t) a = let s = tight n 1 g.space h.space (guarded.handle_in t) (a.step (a.can_hold.0 refl).0) in granted n g h t a.request.grants s.0 s.1

pub asks_tight_aligned : (n align : ℕ) (g h : Guard) (r : Option Ticket) → tickets.AllocatesTightAligned n align g h r → IsLimited g h
asks_tight_aligned n align g h None a = same_limited g h (a.request.same refl)
asks_tight_aligned n align g h (Some t) a = let s = tight n align g.space h.space (guarded.handle_in t) (a.step (a.can_hold.0 refl).0) in granted n g h t a.request.grants s.0 s.1

pub asks_at : (offset n : ℕ) (g h : Guard) (r : Option Ticket) → tickets.AllocatesAt offset n g h r → IsLimited g h
asks_at offset n g h None a = same_limited g h (a.request.same refl)
asks_at offset n g h (Some t) a = let s = (a.step (a.granted.0 refl).0).split.view in granted n g h t a.request.grants (ap (λ (z : View). z.size) s) (ap (λ (z : View). z.max_allocs) s)

-- a second range, at what the step and the offset of the first one have in common
pub second : (t : Ticket) (g h : Guard) (r : Option Ticket) → tickets.Relocates t g h r → IsLimited g h
second t g h None a = same_limited g h (a.second.request.same refl)
second t g h (Some u) a = elim (cases_eq g.step 0) [
  | inl e ↦ same g h (a.none e).1
  | inr d ↦
      let common = gcd_there (offset_of t.name g.space) g.step (omega (arith, d)) in
      let live = a.second.live refl in
      let s = (a.step live.0 live.1 (omega (arith, d)) common.0 common.2).0.1.view in
      granted (size_of t.name g.space) g h u a.second.request.grants (ap (λ (z : View). z.size) s) (ap (λ (z : View). z.max_allocs) s)
]

pub second_aligned : (t : Ticket) (align : ℕ) (g h : Guard) (r : Option Ticket) → tickets.RelocatesAligned t align g h r → IsLimited g h
second_aligned t align g h None a = same_limited g h (a.second.request.same refl)
second_aligned t align g h (Some u) a =
    let live = a.second.live refl in
    let s = (a.step live.0 live.1).0.1.view in
    granted (size_of t.name g.space) g h u a.second.request.grants (ap (λ (z : View). z.size) s) (ap (λ (z : View). z.max_allocs) s)

pub second_unaligned : (t : Ticket) (g h : Guard) (r : Option Ticket) → tickets.RelocatesUnaligned t g h r → IsLimited g h
second_unaligned t g h None a = same_limited g h (a.second.request.same refl)
second_unaligned t g h (Some u) a =
    let live = a.second.live refl in
    let s = (a.step live.0 live.1).0.1.view in
    granted (size_of t.name g.space) g h u a.second.request.grants (ap (λ (z : View). z.size) s) (ap (λ (z : View). z.max_allocs) s)

-- ---- ranges and the space in place
pub frees : (t : Ticket) (g h : Guard) (r : Bool) → tickets.Frees t g h r → IsLimited g h
frees t g h true f = let s = (f.step refl).view in kept g h f.serials (both g.space h.space (ap (λ (z : View). z.size) s) (ap (λ (z : View). z.max_allocs) s))
frees t g h false f = same g h (f.same refl)

pub shrinks : (t : Ticket) (n : ℕ) (g h : Guard) (r : Option Bool) → tickets.Shrinks t n g h r → IsLimited g h
shrinks t n g h None s = same g h (s.not_live refl)
shrinks t n g h (Some done) s = record { realm = s.serials.realm; space = go done s.step }
  where
    go : (done : Bool) → Shrinks t.name n g.space h.space done → SameLimits g.space h.space
    go true (inl s) = stays g.space h.space s.1
    go true (inr s) = both g.space h.space (ap (λ (z : View). z.size) s.2.view) (ap (λ (z : View). z.max_allocs) s.2.view)
    go false s = stays g.space h.space s.1

pub grows : (t : Ticket) (n : ℕ) (g h : Guard) (r : Option Bool) → tickets.Grows t n g h r → IsLimited g h
grows t n g h None s = same g h (s.not_live refl)
grows t n g h (Some done) s = record { realm = s.serials.realm; space = go done s.step }
  where
    go : (done : Bool) → Grows t.name n g.space h.space done → SameLimits g.space h.space
    go true (inl s) = stays g.space h.space s.1
    go true (inr s) = both g.space h.space (ap (λ (z : View). z.size) s.2.view) (ap (λ (z : View). z.max_allocs) s.2.view)
    go false s = stays g.space h.space s.1

pub extends : (more : ℕ) (g h : Guard) (done : Bool) → tickets.Extends more g h done → IsLimited g h
extends more g h done e = record { realm = e.serials.realm; space = go done e.step }
  where
    go : (done : Bool) → Extends more g.space h.space done → SameLimits g.space h.space
    go true (inl s) = stays g.space h.space s.1
    go true (inr s) = (let e = ap (λ (z : View). z.size) s.2.view in omega (arith, e), ap (λ (z : View). z.max_allocs) s.2.view)
    go false s = stays g.space h.space s.2

pub raises : (align : ℕ) (g h : Guard) → tickets.RaisesStep align g h → IsLimited g h
raises align g h s = record { realm = ap (λ (z : Guard). z.realm) s.rest; space = both g.space h.space (ap (λ (z : Guard). z.space.size) s.rest) (ap (λ (z : Guard). z.space.max_allocs) s.rest) }

pub resets : (g h : Guard) → tickets.Resets g h → IsLimited g h
resets g h s = record { realm = ap (λ (z : Guard). z.realm) s.serials; space = both g.space h.space s.size (ap (λ (z : View). z.max_allocs) s.step.view) }

-- ---- ranges that move
by_step : (g h : Guard) → (g.step ≡ 0 → h ≡ g) → h ≡ record g { space = h.space } → (1 ≤ g.step → SameLimits g.space h.space) → IsLimited g h
by_step g h none serials s = elim (cases_eq g.step 0) [
  | inl e ↦ same g h (none e)
  | inr d ↦ kept g h serials (s (omega (arith, d)))
]

slid : (s : ℕ) (v w : View) (done : Bool) → CompactsBy s v w done → SameLimits v w
slid s v w true (inl e) = stays v w e.1
slid s v w true (inr e) = both v w (ap (λ (z : View). z.size) e.1.view) (ap (λ (z : View). z.max_allocs) e.1.view)
slid s v w false e = stays v w e.2

pub slides : (g h : Guard) (done : Bool) → (g.step ≡ 0 → h ≡ g) → (1 ≤ g.step → CompactsBy g.step g.space h.space done) → h ≡ record g { space = h.space } → IsLimited g h
slides g h done none step serials = by_step g h none serials (λ some. slid g.step g.space h.space done (step some))

module _ {F : Type 0} (R : F → Move → F → Type 0) where
  pub compacts : (f : F) (g h : Guard) (f' : F) (r : Bool) → tickets.Compacts R f g h f' r → IsLimited g h
  compacts f g h f' r c = slides g h r (λ e. (c.none e).1) c.step c.serials

  pub compacts_by : (s : ℕ) (f : F) (g h : Guard) (f' : F) (r : Bool) → tickets.CompactsBy R s f g h f' r → IsLimited g h
  compacts_by s f g h f' r c = kept g h c.serials (slid s g.space h.space r c.step)

  pub compacts_unaligned : (f : F) (g h : Guard) (f' : F) → tickets.CompactsUnaligned R f g h f' → IsLimited g h
  compacts_unaligned f g h f' c = kept g h c.serials (both g.space h.space (ap (λ (z : View). z.size) c.step.view) (ap (λ (z : View). z.max_allocs) c.step.view))

  slid_within : (s from u r : ℕ) (v : View) (f : F) (c : Option Progress) (w : View) (g : F) → CompactsWithin R s from u r v f c w g → SameLimits v w
  slid_within s from u r v f None w g a = stays v w a.0
  slid_within s from u r v f (Some p) w g (inl a) = stays v w a.2
  slid_within s from u r v f (Some p) w g (inr a) = both v w (ap (λ (z : View). z.size) a.0.view) (ap (λ (z : View). z.max_allocs) a.0.view)

  pub within : (from u r : ℕ) (f : F) (g h : Guard) (f' : F) (c : Option Progress) → tickets.CompactsWithin R from u r f g h f' c → IsLimited g h
  within from u r f g h f' c a = by_step g h (λ e. (a.none e).1) a.serials (λ some. slid_within g.step from u r g.space f c h.space f' (a.step some))

  pub within_by : (s from u r : ℕ) (f : F) (g h : Guard) (f' : F) (c : Option Progress) → tickets.CompactsWithinBy R s from u r f g h f' c → IsLimited g h
  within_by s from u r f g h f' c a = kept g h a.serials (slid_within s from u r g.space f c h.space f' a.step)

  room_by : (s want short : ℕ) (v : View) (f : F) (c : Option RoomCost) (w : View) (g : F) → MakesRoomBy R s want short v f c w g → SameLimits v w
  room_by s want short v f None w g a = stays v w a.0
  room_by s want short v f (Some c) w g a = elim (cases_lt 0 c.ranges) [
    | inl l ↦ let k = (a.1 (omega (arith, l))).0 in both v w (ap (λ (z : View). z.size) k.view) (ap (λ (z : View). z.max_allocs) k.view)
    | inr none ↦ stays v w (a.0 (omega (arith, none))).0
  ]

  room : (want : ℕ) (v : View) (f : F) (c : Option RoomCost) (w : View) (g : F) → MakesRoom R want v f c w g → SameLimits v w
  room want v f None w g a = stays v w a.0
  room want v f (Some c) w g a = elim (cases_lt 0 c.ranges) [
    | inl l ↦ let k = (a.1 (omega (arith, l))).0 in both v w (ap (λ (z : View). z.size) k.view) (ap (λ (z : View). z.max_allocs) k.view)
    | inr none ↦ stays v w (a.0 (omega (arith, none))).0
  ]

  pub makes_room : (n align : ℕ) (f : F) (g h : Guard) (f' : F) (c : Option RoomCost) → tickets.MakesRoom R n align f g h f' c → IsLimited g h
  makes_room n align f g h f' c a = by_step g h (λ e. (a.none e).1) a.serials (λ some. room_by g.step _ _ g.space f c h.space f' (a.step some))

  pub makes_room_by : (n align s : ℕ) (f : F) (g h : Guard) (f' : F) (c : Option RoomCost) → tickets.MakesRoomBy R n align s f g h f' c → IsLimited g h
  makes_room_by n align s f g h f' c a = kept g h a.serials (room_by s _ _ g.space f c h.space f' a.step)

  pub makes_room_unaligned : (n : ℕ) (f : F) (g h : Guard) (f' : F) (c : Option RoomCost) → tickets.MakesRoomUnaligned R n f g h f' c → IsLimited g h
  makes_room_unaligned n f g h f' c a = kept g h a.serials (room _ g.space f c h.space f' a.step)

-- ---- all heaps
retracted : (less : ℕ) (v w : View) → Retracts less v w true → w.max_allocs ≡ v.max_allocs
retracted less v w (inl s) = ap (λ (z : View). z.max_allocs) s.1
retracted less v w (inr c) = ap (λ (z : View). z.max_allocs) c.1.view

-- where units do not go, all is as it was
pub unretracted : (less : ℕ) (g h : Guard) → (h ≡ g) ⊎ tickets.Retracts less g h false → guarded.IsSame g h
unretracted less g h (inl e) = subst (guarded.IsSame g) (sym e) (refl, record { cells = λ x. refl; given = refl; realm = refl; step = refl })
unretracted less g h (inr x) = x.same refl

shorter_kind : (limits : Limits) (k less : ℕ) (g h : Guard) → least_units limits k + less ≤ g.space.size → h.space.size + less ≡ g.space.size → h.space.max_allocs ≡ g.space.max_allocs
    → IsOfKind limits k g → IsOfKind limits k h
shorter_kind limits k less g h enough size limit (inl u) =
    let least : least_units limits k ≡ usual_size limits k = ap (λ (b : Bool). if b then usual_size limits k else 1) (lt-ltb k limits.most u.0) in
    inl (u.0, omega (arith, enough, size, least), (omega (arith, limit, u.2.0), omega (arith, limit, u.2.1)))
shorter_kind limits k less g h enough size limit (inr l) =
    let least : least_units limits k ≡ 1 = ap (λ (b : Bool). if b then usual_size limits k else 1) (le-ltb k limits.most l.0) in
    inr (l.0, omega (arith, enough, size, least), limit ∙ l.2)

pub kind_kept : (limits : Limits) (k : ℕ) (g h : Guard) → SameLimits g.space h.space → IsOfKind limits k g → IsOfKind limits k h
kind_kept limits k g h s (inl u) = inl (u.0, omega (arith, s.0, u.1), (omega (arith, s.1, u.2.0), omega (arith, s.1, u.2.1)))
kind_kept limits k g h s (inr l) = inr (l.0, omega (arith, s.0, l.1), s.1 ∙ l.2)

module _ (max : ℕ) (slots : List (Option Guard)) (limits : Limits) (made : ℕ) (old new : Index) (k : ℕ) (g h : Guard) (is : IsSound max slots limits made old) (was : slot k slots ≡ Some g) where
  pub sound_kind : h.realm ≡ g.realm → (IsOfKind limits k g → IsOfKind limits k h)
      → IsWide (slice_set slots k (Some h)) new → IsNoted limits (slice_set slots k (Some h)) new k
      → ((j : ℕ) → (j ≡ k → ⊥) → IsNoted limits (slice_set slots k (Some h)) old j → IsNoted limits (slice_set slots k (Some h)) new j)
      → new.one.height ≡ old.one.height → IsSound max (slice_set slots k (Some h)) limits made new
  sound_kind realm kind wide here others levels =
      sound_put max slots limits made made old new k (Some h) is (omega arith) (realm_kept made (slot k slots) (Some h) g h was refl realm (is.realms k))
      (kind (rw was at (is.kinds k))) (slot_there slots k (ap is_some was)) wide here others levels

  pub sound_changed : IsLimited g h
      → IsWide (slice_set slots k (Some h)) new → IsNoted limits (slice_set slots k (Some h)) new k
      → ((j : ℕ) → (j ≡ k → ⊥) → IsNoted limits (slice_set slots k (Some h)) old j → IsNoted limits (slice_set slots k (Some h)) new j)
      → new.one.height ≡ old.one.height → IsSound max (slice_set slots k (Some h)) limits made new
  sound_changed l = sound_kind l.realm (kind_kept limits k g h l.space)

  -- units at the end went, and it has those of its kind
  pub sound_shorter : (less : ℕ) (r : Bool) → IsTrue r ↔ ((least_units limits k + less ≤ g.space.size) × (1 ≤ less → CanRetract less g.space)) → (r ≡ true → tickets.Retracts less g h true)
      → (r ≡ false → (h ≡ g) ⊎ tickets.Retracts less g h false)
      → IsWide (slice_set slots k (Some h)) new → IsNoted limits (slice_set slots k (Some h)) new k
      → ((j : ℕ) → (j ≡ k → ⊥) → IsNoted limits (slice_set slots k (Some h)) old j → IsNoted limits (slice_set slots k (Some h)) new j)
      → new.one.height ≡ old.one.height → IsSound max (slice_set slots k (Some h)) limits made new
  sound_shorter less false done step same = sound_changed (same_limited g h (unretracted less g h (same refl)))
  sound_shorter less true done step same =
      let x = step refl in
      sound_kind (ap (λ (z : Guard). z.realm) x.serials) (shorter_kind limits k less g h (done.0 refl).0 (x.size refl) (retracted less g.space h.space x.step))

-- each heap is changed so
abbrev pub IsLimitedIn : Option Guard → Option Guard → Type 0
IsLimitedIn None new = new ≡ None
IsLimitedIn (Some g) new = (h : Guard) × (new ≡ Some h) × IsLimited g h

limited_realm : (made : ℕ) (o new : Option Guard) → IsLimitedIn o new → IfSome o (λ g. g.realm ≤ made) → IfSome new (λ g. g.realm ≤ made)
limited_realm made None new e below = rw e tt
limited_realm made (Some g) new r below = rw r.1 (omega (arith, r.2.realm, below))

limited_kind : (limits : Limits) (k : ℕ) (o new : Option Guard) → IsLimitedIn o new → IfSome o (IsOfKind limits k) → IfSome new (IsOfKind limits k)
limited_kind limits k None new e kind = rw e tt
limited_kind limits k (Some g) new r kind = rw r.1 (kind_kept limits k g r.0 r.2.space kind)

pub sound_all : (max : ℕ) (slots now : List (Option Guard)) (limits : Limits) (made : ℕ) (old new : Index) → IsSound max slots limits made old → length now ≡ length slots → IsWide now new
    → ((k : ℕ) → IsNoted limits now new k) → ((bits : ℕ) → length now ≤ 2 ^ bits → new.one.height ≤ bits) → ((k : ℕ) → IsLimitedIn (slot k slots) (slot k now)) → IsSound max now limits made new
sound_all max slots now limits made old new is long wide noted low limited = record {
  wide = wide;
  noted = noted;
  numbers = long ∙ is.numbers;
  few = rw long is.few;
  low = low;
  limit_min = is.limit_min;
  limit_max = is.limit_max;
  limit_first = is.limit_first;
  size_first = is.size_first;
  realms = λ k. limited_realm made (slot k slots) (slot k now) (limited k) (is.realms k);
  kinds = λ k. limited_kind limits k (slot k slots) (slot k now) (limited k) (is.kinds k);
}

-- the same, with as many levels
pub sound_levels : (max : ℕ) (slots now : List (Option Guard)) (limits : Limits) (made : ℕ) (old new : Index) → IsSound max slots limits made old → length now ≡ length slots → IsWide now new
    → ((k : ℕ) → IsNoted limits now new k) → new.one.height ≡ old.one.height → ((k : ℕ) → IsLimitedIn (slot k slots) (slot k now)) → IsSound max now limits made new
sound_levels max slots now limits made old new is long wide noted levels =
    sound_all max slots now limits made old new is long wide noted (λ bits enough. rw levels (is.low bits (subst (λ n. n ≤ 2 ^ bits) long enough)))

pub reset_limited : (o new : Option Guard) → ResetsIn o new → IsLimitedIn o new
reset_limited None new e = e
reset_limited (Some g) new r = (r.0, r.1, resets g r.0 r.2)

pub compact_limited : (o new : Option Guard) → CompactsSlot o new → IsLimitedIn o new
compact_limited None new e = e
compact_limited (Some g) new r = (r.0, r.1, slides g r.0 (can_compact g) r.2.none r.2.step r.2.serials)

pub quiet_limited : (o : Option Guard) → IsLimitedIn o (quiet o)
quiet_limited None = refl
quiet_limited (Some g) = (record g { space = record g.space { accesses = 0 } }, refl, record { realm = refl; space = both g.space (record g.space { accesses = 0 }) refl refl })

-- the heap of a number is changed so
pub sound_altered : (max : ℕ) (slots now : List (Option Guard)) (limits : Limits) (made : ℕ) (old new : Index) (k : ℕ) (P : Guard → Guard → Type 0) → IsSound max slots limits made old
    → (c : Changes k (AltersIn P) slots now) → IsLimited c.by.before c.by.after → IsWide now new → IsNoted limits now new k → ((j : ℕ) → (j ≡ k → ⊥) → IsNoted limits now old j → IsNoted limits now new j)
    → new.one.height ≡ old.one.height → IsSound max now limits made new
sound_altered max slots now limits made old new k P is c limited wide here others levels =
    let e : slice_set slots k (Some c.by.after) ≡ now = sym (c.slots ∙ ap (slice_set slots k) c.by.is) in
    subst (λ (s : List (Option Guard)). IsSound max s limits made new) e
    (sound_changed max slots limits made old new k c.by.before c.by.after is c.by.was limited (rw (← e) at wide) (rw (← e) at here) (rw (← e) at others) levels)
