-- The same call on twins has the same answer and the same moves, and leaves twins.
use Rattle.std.proofs.Common.{◌≡◌, ◌↔◌, ℕ, ◌<◌, ◌≤◌, ◌⊎◌, Bool, true, false, List, [], Option, Some, None, IsSome, IsTrue, is_some, option_map, if◌then◌else◌, refl, sym, ap, ap₂, subst, subst₂, ◌∙◌, inl, inr, arith}
use Rattle.std.proofs.lemmas.Bool.{cases_lt}
use Rattle.std.specs.Int.{IsGcd}
use Rattle.std.specs.List.{FoldsTo}
use Rattle.offset_allocator.specs.Resizing.{CanGrow, CanShrink, Grows, Shrinks}
use Rattle.offset_allocator.specs.Relations as space
use Rattle.offset_allocator.specs.Ranges.{Range, size_of}
use Rattle.offset_allocator.specs.{Classes.up, Classes.value, Relations.SameState, Requests.blocks_needed, Requests.units_needed, View.View, View.IsWellFormed}
use Rattle.offset_allocator.specs.Moving.{BySteps.CompactsBy, BySteps.moves_by, Compacting.Move, Compacting.moves, Relocating.offset_of, RoomBySteps.IsLeastCostBy, RoomBySteps.MakesRoomBy, RoomBySteps.names_short, Budget.CompactsWithin}
use Rattle.offset_allocator.proofs.{AtOffset.at_decided, Decided.allocates_decided, Decided.aligns_decided, Decided.relocates_aligned_decided, Decided.relocates_decided, Decided.tight_decided, DecidedChanges.compacts_decided, DecidedChanges.extends_decided, DecidedChanges.grows_decided, DecidedChanges.retracts_decided, DecidedChanges.shrinks_decided}
use Rattle.offset_allocator.proofs.Moving.{DecidedBudget.within_decided, DecidedRooms.folds_same, DecidedRooms.noted_decided, DecidedRoomsBySteps.noted_by_decided, DecidedSteps.compacts_by_decided}
use Rattle.offset_guarded.specs.Answers as tickets
use Rattle.offset_guarded.specs.Answers.{Answer, Answers, Call, Notes, Requests, RequestsSecond, Resizes}
use Rattle.offset_guarded.specs.Answers.Answer.{Requested, Was_done, Resized, Progressed, Room_made, Nothing}
use Rattle.offset_guarded.specs.Answers.Call.{Allocate, Allocate_aligned, Allocate_tight, Allocate_tight_aligned, Allocate_at, Relocate, Relocate_aligned, Relocate_unaligned, Free, Shrink, Grow_in_place, Extend, Retract, Raise_step, Reset, Compact, Compact_by, Compact_unaligned, Compact_within, Compact_within_by, Make_room, Make_room_by, Make_room_unaligned}
use Rattle.offset_guarded.specs.Guard.{Guard, HasSerialLeft, IsLive, KeepsSizes, Ticket, handle_in, last_serial}
use Rattle.offset_guarded.specs.Twins.{IsTwin}
use Rattle.offset_guarded.proofs.Divisors.{gcd_there}
use Rattle.offset_guarded.proofs.Twins.{free_twins, grant_twins, joined_twins, kept_twins, range_twin, reset_twins, same_ticket, same_twin, slid_twins, twin_sym, twin_trans}

-- ---- requests
-- the space grants the same handle, and is left in the same state
abbrev Alike : Guard → Guard → Option Ticket → Option Ticket → Type 0
Alike h h' r r' = (option_map handle_in r ≡ option_map handle_in r') × SameState h.space h'.space

granted : (n n' : ℕ) (g g' h h' : Guard) (r r' : Option Ticket) → n' ≡ n → IsTwin g g' → Requests n g h r → Requests n' g' h' r' → (IsSome r ⊎ IsSome r' → Alike h h' r r')
    → (IsSome r → IsSome r' → h'.step ≡ h.step) → (r ≡ r') × IsTwin h h'
granted n n' g g' h h' None None e t a b alike step =
    (refl, twin_trans h g h' (twin_sym g h (same_twin g h (a.same refl))) (twin_trans g g' h' t (same_twin g' h' (b.same refl))))
granted n n' g g' h h' None (Some v) e t a b alike step = absurd (let q = (alike (inr refl)).0 in cc)
granted n n' g g' h h' (Some u) None e t a b alike step = absurd (let q = (alike (inl refl)).0 in cc)
granted n n' g g' h h' (Some u) (Some v) e t a b alike step =
    let grants' = subst (λ k. tickets.Requests k g' h' (Some v)) e b in
    let same = alike (inl refl) in
    (ap Some (same_ticket n g g' h h' u v t a.grants grants'.grants same), grant_twins n g g' h h' u v t a.grants grants'.grants same (step refl refl))

module _ (g g' h h' : Guard) (t : IsTwin g g') where
  left : HasSerialLeft g → HasSerialLeft g'
  left l = subst (λ (n : ℕ). n < last_serial) (sym t.given) l

  back : HasSerialLeft g' → HasSerialLeft g
  back l = subst (λ (n : ℕ). n < last_serial) t.given l

  -- a request that is granted has a serial, so the space decides it
  served : {P P' : Type 0} (r r' : Option Ticket) → (IsSome r ↔ (HasSerialLeft g × P)) → (IsSome r' ↔ (HasSerialLeft g' × P')) → (HasSerialLeft g → HasSerialLeft g' → Alike h h' r r')
      → IsSome r ⊎ IsSome r' → Alike h h' r r'
  served r r' can can' each (inl some) = let l = (can.0 some).0 in each l (left l)
  served r r' can can' each (inr some) = let l = (can'.0 some).0 in each (back l) l

  live : (x : Ticket) → IsLive x g → IsLive x g'
  live x l = subst IsSome (sym (range_twin x g g' t)) l

  live_back : (x : Ticket) → IsLive x g' → IsLive x g
  live_back x l = subst IsSome (range_twin x g g' t) l

  -- a second range is granted for that of a live ticket
  second : (x : Ticket) (r r' : Option Ticket) → RequestsSecond x g h r → RequestsSecond x g' h' r'
      → (IsLive x g → HasSerialLeft g → IsLive x g' → HasSerialLeft g' → Alike h h' r r') → IsSome r ⊎ IsSome r' → Alike h h' r r'
  second x r r' a b each (inl some) = let l = a.live some in each l.0 l.1 (live x l.0) (left l.1)
  second x r r' a b each (inr some) = let l = b.live some in each (live_back x l.0) (back l.1) l.0 l.1

  size_same : (x : ℕ) → size_of x g'.space ≡ size_of x g.space
  size_same x = ap (λ (v : View). size_of x v) t.space

  same_step : h.step ≡ g.step → h'.step ≡ g'.step → h'.step ≡ h.step
  same_step e f = f ∙ t.step ∙ sym e

  joined : (align : ℕ) (r r' : Option Ticket) → tickets.Aligns align g h r → tickets.Aligns align g' h' r' → IsSome r → IsSome r' → h'.step ≡ h.step
  joined align None r' a b some some' = absurd (let q : false ≡ true = some in cc)
  joined align (Some u) None a b some some' = absurd (let q : false ≡ true = some' in cc)
  joined align (Some u) (Some v) a b some some' = joined_twins align g g' h h' t a.joined b.joined

  -- ---- ranges in place
  resized : (x : Ticket) (n : ℕ) (Can : View → Type 0) (Step : View → View → Bool → Type 0) → ((d d' : Bool) → Step g.space h.space d → Step g'.space h'.space d' → (d ≡ d') × SameState h.space h'.space)
      → (r r' : Option Bool) → Resizes x n Can Step g h r → Resizes x n Can Step g' h' r' → (r ≡ r') × IsTwin h h'
  resized x n Can Step each None None a b = (refl, subst₂ IsTwin (sym (a.not_live refl)) (sym (b.not_live refl)) t)
  resized x n Can Step each None (Some d) a b = absurd (let q : false ≡ true = a.live.1 (live_back x (b.live.0 refl)) in cc)
  resized x n Can Step each (Some d) None a b = absurd (let q : false ≡ true = b.live.1 (live x (a.live.0 refl)) in cc)
  resized x n Can Step each (Some d) (Some d') a b =
      let e = each d d' a.step b.step in
      (ap Some e.0, kept_twins g g' h h' t a.serials b.serials a.kept e.1)

  -- ---- ranges that move
  noted : (ms ns : List Move) (xs xs' : List Move) → ns ≡ ms → FoldsTo Notes [] ms xs → FoldsTo Notes [] ns xs' → xs ≡ xs'
  noted ms ns xs xs' e f k = folds_same Notes (λ f g h x a b. a ∙ sym b) [] ms xs xs' f (subst (λ l. FoldsTo Notes [] l xs') e k)

  -- what the space does by a step
  by_step : (s : ℕ) (r r' : Bool) (xs xs' : List Move) → CompactsBy s g.space h.space r → CompactsBy s g'.space h'.space r'
      → FoldsTo Notes [] (if r then moves_by s 0 0 g.space.blocks else []) xs → FoldsTo Notes [] (if r' then moves_by s 0 0 g'.space.blocks else []) xs' → (r ≡ r') × (xs ≡ xs') × SameState h.space h'.space
  by_step s r r' xs xs' a b f k =
      let e = compacts_by_decided s g.space g'.space h.space h'.space t.space r r' a b in
      (e.0, noted _ _ xs xs' (ap₂ (λ (b : Bool) (v : View). if b then moves_by s 0 0 v.blocks else []) (sym e.0) t.space) f k, e.1)

-- a call that goes by the step of the space does nothing where there is none
stepped : {A : Type 0} (g g' h h' : Guard) (a a' : A) (xs xs' : List Move) → IsTwin g g' → KeepsSizes g h → h ≡ record g { space = h.space } → h' ≡ record g' { space = h'.space }
    → (g.step ≡ 0 → g'.step ≡ 0 → (a ≡ a') × (xs ≡ xs') × (h ≡ g) × (h' ≡ g'))
    → (1 ≤ g.step → 1 ≤ g'.step → (a ≡ a') × (xs ≡ xs') × SameState h.space h'.space) → (a ≡ a') × (xs ≡ xs') × IsTwin h h'
stepped g g' h h' a a' xs xs' t sizes e f none some = elim (cases_lt 0 g.step) [
  | inl l ↦
      let r = some (omega (arith, l)) (omega (arith, l, t.step)) in
      (r.0, r.1, slid_twins g g' h h' t e f sizes r.2)
  | inr m ↦
      let r = none (omega (arith, m)) (omega (arith, m, t.step)) in
      (r.0, r.1, subst₂ IsTwin (sym r.2) (sym r.3) t)
]

abbrev Same : {A : Type 0} → A → A → List Move → List Move → Guard → Guard → Type 0
Same a a' ms ms' h h' = (a ≡ a') × (ms ≡ ms') × IsTwin h h'

still : {A : Type 0} (f : A → Answer) (x x' : A) (a a' : Answer) (ms ms' : List Move) (h h' : Guard) → a ≡ f x → a' ≡ f x' → ms ≡ [] → ms' ≡ [] → (x ≡ x') × IsTwin h h' → Same a a' ms ms' h h'
still f x x' a a' ms ms' h h' e e' m m' s = (e ∙ ap f s.0 ∙ sym e', m ∙ sym m', s.1)

moving : {A : Type 0} (f : A → Answer) (x x' : A) (a a' : Answer) (ms ms' : List Move) (h h' : Guard) → a ≡ f x → a' ≡ f x' → Same x x' ms ms' h h' → Same a a' ms ms' h h'
moving f x x' a a' ms ms' h h' e e' s = (e ∙ ap f s.0 ∙ sym e', s.1, s.2)

pub answers_decided : (c : Call) (g g' h h' : Guard) → IsWellFormed g.space → IsTwin g g' → (a a' : Answer) (ms ms' : List Move) → Answers c g h a ms → Answers c g' h' a' ms' → Same a a' ms ms' h h'
answers_decided (Allocate n) g g' h h' known t a a' ms ms' x y =
    let d = granted n n g g' h h' x.0 y.0 refl t x.2.request y.2.request
    (served g g' h h' t x.0 y.0 x.2.can_grant y.2.can_grant (λ l m. allocates_decided n g.space g'.space h.space h'.space known t.space (option_map handle_in x.0) (option_map handle_in y.0) (x.2.step l) (y.2.step m)))
    (λ p q. same_step g g' h h' t x.2.same_step y.2.same_step) in
    still Requested x.0 y.0 a a' ms ms' h h' x.1 y.1 x.3 y.3 d
answers_decided (Allocate_aligned n align) g g' h h' known t a a' ms ms' x y =
    let d = granted n n g g' h h' x.0 y.0 refl t x.2.request y.2.request
    (served g g' h h' t x.0 y.0 x.2.can_grant y.2.can_grant (λ l m. aligns_decided n align g.space g'.space h.space h'.space known t.space (option_map handle_in x.0) (option_map handle_in y.0) (x.2.step l) (y.2.step m)))
    (joined g g' h h' t align x.0 y.0 x.2.aligns y.2.aligns) in
    still Requested x.0 y.0 a a' ms ms' h h' x.1 y.1 x.3 y.3 d
answers_decided (Allocate_tight n) g g' h h' known t a a' ms ms' x y =
    let d = granted n n g g' h h' x.0 y.0 refl t x.2.request y.2.request
    (served g g' h h' t x.0 y.0 x.2.can_hold y.2.can_hold (λ l m. tight_decided n 1 g.space g'.space h.space h'.space known t.space (option_map handle_in x.0) (option_map handle_in y.0) (x.2.step l) (y.2.step m)))
    (λ p q. same_step g g' h h' t x.2.same_step y.2.same_step) in
    still Requested x.0 y.0 a a' ms ms' h h' x.1 y.1 x.3 y.3 d
answers_decided (Allocate_tight_aligned n align) g g' h h' known t a a' ms ms' x y =
    let d = granted n n g g' h h' x.0 y.0 refl t x.2.request y.2.request
    (served g g' h h' t x.0 y.0 x.2.can_hold y.2.can_hold (λ l m. tight_decided n align g.space g'.space h.space h'.space known t.space (option_map handle_in x.0) (option_map handle_in y.0) (x.2.step l) (y.2.step m)))
    (joined g g' h h' t align x.0 y.0 x.2.aligns y.2.aligns) in
    still Requested x.0 y.0 a a' ms ms' h h' x.1 y.1 x.3 y.3 d
answers_decided (Allocate_at offset n) g g' h h' known t a a' ms ms' x y =
    let d = granted n n g g' h h' x.0 y.0 refl t x.2.request y.2.request
    (served g g' h h' t x.0 y.0 x.2.granted y.2.granted (λ l m. at_decided offset n g.space g'.space h.space h'.space known t.space (option_map handle_in x.0) (option_map handle_in y.0) (x.2.step l) (y.2.step m)))
    (λ p q. same_step g g' h h' t x.2.same_step y.2.same_step) in
    still Requested x.0 y.0 a a' ms ms' h h' x.1 y.1 x.3 y.3 d
answers_decided (Relocate u) g g' h h' known t a a' ms ms' x y = elim (cases_lt 0 g.step) [
  | inl l ↦
      let offset' : offset_of u.name g'.space ≡ offset_of u.name g.space = ap (λ (v : View). offset_of u.name v) t.space in
      let some : 1 ≤ g.step = omega (arith, l) in
      let d = granted (size_of u.name g.space) (size_of u.name g'.space) g g' h h' x.0 y.0 (size_same g g' h h' t u.name) t x.2.second.request y.2.second.request
      (second g g' h h' t u x.0 y.0 x.2.second y.2.second (λ l m l' m'.
      let align = gcd_there (offset_of u.name g.space) g.step some in
      relocates_aligned_decided u.name align.0 g.space g'.space h.space h'.space align.1 known t.space (option_map handle_in x.0) (option_map handle_in y.0)
      (x.2.step l m some align.0 align.2) (y.2.step l' m' (omega (arith, some, t.step)) align.0 (subst₂ (λ (o s : ℕ). IsGcd o s align.0) (sym offset') (sym t.step) align.2))))
      (λ p q. same_step g g' h h' t x.2.same_step y.2.same_step) in
      still Requested x.0 y.0 a a' ms ms' h h' x.1 y.1 x.3 y.3 d
  | inr m ↦
      let e = x.2.none (omega (arith, m)) in
      let f = y.2.none (omega (arith, m, t.step)) in
      still Requested x.0 y.0 a a' ms ms' h h' x.1 y.1 x.3 y.3 (e.0 ∙ sym f.0, subst₂ IsTwin (sym e.1) (sym f.1) t)
]
answers_decided (Relocate_aligned u align) g g' h h' known t a a' ms ms' x y =
    let d = granted (size_of u.name g.space) (size_of u.name g'.space) g g' h h' x.0 y.0 (size_same g g' h h' t u.name) t x.2.second.request y.2.second.request
    (second g g' h h' t u x.0 y.0 x.2.second y.2.second (λ l m l' m'. relocates_aligned_decided u.name align g.space g'.space h.space h'.space x.4 known t.space (option_map handle_in x.0) (option_map handle_in y.0) (x.2.step l m) (y.2.step l' m')))
    (joined g g' h h' t align x.0 y.0 x.2.aligns y.2.aligns) in
    still Requested x.0 y.0 a a' ms ms' h h' x.1 y.1 x.3 y.3 d
answers_decided (Relocate_unaligned u) g g' h h' known t a a' ms ms' x y =
    let d = granted (size_of u.name g.space) (size_of u.name g'.space) g g' h h' x.0 y.0 (size_same g g' h h' t u.name) t x.2.second.request y.2.second.request
    (second g g' h h' t u x.0 y.0 x.2.second y.2.second (λ l m l' m'. relocates_decided u.name g.space g'.space h.space h'.space known t.space (option_map handle_in x.0) (option_map handle_in y.0) (x.2.step l m) (y.2.step l' m')))
    (λ p q. same_step g g' h h' t x.2.same_step y.2.same_step) in
    still Requested x.0 y.0 a a' ms ms' h h' x.1 y.1 x.3 y.3 d
answers_decided (Free u) g g' h h' known t a a' ms ms' x y = still Was_done x.0 y.0 a a' ms ms' h h' x.1 y.1 x.3 y.3 (go x.0 y.0 x.2.done y.2.done x.2.same y.2.same x.2.step y.2.step)
  where
    go : (r r' : Bool) → IsTrue r ↔ IsLive u g → IsTrue r' ↔ IsLive u g' → (r ≡ false → h ≡ g) → (r' ≡ false → h' ≡ g')
        → (r ≡ true → space.Frees u.name g.space h.space) → (r' ≡ true → space.Frees u.name g'.space h'.space) → (r ≡ r') × IsTwin h h'
    go true true live live' same same' step step' = (refl, free_twins u.name g g' h h' known t (step refl) (step' refl) x.2.serials y.2.serials)
    go false false live live' same same' step step' = (refl, subst₂ IsTwin (sym (same refl)) (sym (same' refl)) t)
    go true false live live' same same' step step' = absurd (let e : false ≡ true = live'.1 (subst IsSome (sym (range_twin u g g' t)) (live.0 refl)) in cc)
    go false true live live' same same' step step' = absurd (let e : false ≡ true = live.1 (subst IsSome (range_twin u g g' t) (live'.0 refl)) in cc)
answers_decided (Shrink u n) g g' h h' known t a a' ms ms' x y = still Resized x.0 y.0 a a' ms ms' h h' x.1 y.1 x.3 y.3
    (resized g g' h h' t u n (CanShrink u.name n) (Shrinks u.name n) (λ d d' s s'. shrinks_decided u.name n g.space g'.space h.space h'.space known t.space d d' s s') x.0 y.0 x.2 y.2)
answers_decided (Grow_in_place u n) g g' h h' known t a a' ms ms' x y = still Resized x.0 y.0 a a' ms ms' h h' x.1 y.1 x.3 y.3
    (resized g g' h h' t u n (CanGrow u.name n) (Grows u.name n) (λ d d' s s'. grows_decided u.name n g.space g'.space h.space h'.space known t.space d d' s s') x.0 y.0 x.2 y.2)
answers_decided (Extend more) g g' h h' known t a a' ms ms' x y =
    let e = extends_decided more g.space g'.space h.space h'.space known t.space x.0 y.0 x.2.step y.2.step in
    still Was_done x.0 y.0 a a' ms ms' h h' x.1 y.1 x.3 y.3 (e.0, kept_twins g g' h h' t x.2.serials y.2.serials (λ u. ap is_some (x.2.kept u)) e.1)
answers_decided (Retract less) g g' h h' known t a a' ms ms' x y =
    let e = retracts_decided less g.space g'.space h.space h'.space t.space x.0 y.0 x.2.step y.2.step in
    still Was_done x.0 y.0 a a' ms ms' h h' x.1 y.1 x.3 y.3 (e.0, slid_twins g g' h h' t x.2.serials y.2.serials (λ u. ap (option_map (λ (r : Range). r.size)) (x.2.kept u)) e.1)
answers_decided (Raise_step align) g g' h h' known t a a' ms ms' x y = (
  x.0 ∙ sym y.0,
  x.2 ∙ sym y.2,
  subst₂ IsTwin (sym x.1.rest) (sym y.1.rest) (record {
    space = t.space;
    serials = t.serials;
    given = t.given;
    realm = t.realm;
    step = joined_twins align g g' h h' t x.1.joined y.1.joined;
  }),
)
answers_decided Reset g g' h h' known t a a' ms ms' x y = (x.0 ∙ sym y.0, x.2 ∙ sym y.2, reset_twins g g' h h' known t x.1.step y.1.step x.1.serials y.1.serials x.1.gone)
answers_decided Compact g g' h h' known t a a' ms ms' x y = moving Was_done x.0 y.0 a a' ms ms' h h' x.1 y.1
    (stepped g g' h h' x.0 y.0 ms ms' t x.2.sizes x.2.serials y.2.serials
    (λ e f.
    let p = x.2.none e in
    let q = y.2.none f in
    (p.0 ∙ sym q.0, noted g g' h h' t [] [] ms ms' refl (none g ms x.0 p.0 x.2.moved) (none g' ms' y.0 q.0 y.2.moved), p.1, q.1))
    (λ l m. by_step g g' h h' t g.step x.0 y.0 ms ms' (x.2.step l) (subst (λ s. CompactsBy s g'.space h'.space y.0) t.step (y.2.step m)) x.2.moved
    (subst (λ s. FoldsTo Notes [] (if y.0 then moves_by s 0 0 g'.space.blocks else []) ms') t.step y.2.moved)))
  where
    none : (g : Guard) (ms : List Move) (r : Bool) → r ≡ false → FoldsTo Notes [] (if r then moves_by g.step 0 0 g.space.blocks else []) ms → FoldsTo Notes [] [] ms
    none g ms r e f = subst (λ (b : Bool). FoldsTo Notes [] (if b then moves_by g.step 0 0 g.space.blocks else []) ms) e f
answers_decided (Compact_by s) g g' h h' known t a a' ms ms' x y =
    let e = by_step g g' h h' t s x.0 y.0 ms ms' x.2.step y.2.step x.2.moved y.2.moved in
    moving Was_done x.0 y.0 a a' ms ms' h h' x.1 y.1 (e.0, e.1, slid_twins g g' h h' t x.2.serials y.2.serials x.2.sizes e.2)
answers_decided Compact_unaligned g g' h h' known t a a' ms ms' x y = (
  x.0 ∙ sym y.0,
  noted g g' h h' t (moves 0 0 g.space.blocks) (moves 0 0 g'.space.blocks) ms ms' (ap (λ (v : View). moves 0 0 v.blocks) t.space) x.1.moved y.1.moved,
  slid_twins g g' h h' t x.1.serials y.1.serials x.1.sizes (compacts_decided g.space g'.space h.space h'.space t.space x.1.step y.1.step),
)
answers_decided (Compact_within from units ranges) g g' h h' known t a a' ms ms' x y = moving Progressed x.0 y.0 a a' ms ms' h h' x.1 y.1
    (stepped g g' h h' x.0 y.0 ms ms' t x.2.sizes x.2.serials y.2.serials
    (λ e f.
    let p = x.2.none e in
    let q = y.2.none f in
    (p.0 ∙ sym q.0, p.2 ∙ sym q.2, p.1, q.1))
    (λ l m. within_decided g.step from units ranges g.space g'.space h.space h'.space known t.space x.0 y.0 ms ms' (x.2.step l)
    (subst (λ s. CompactsWithin Notes s from units ranges g'.space [] y.0 h'.space ms') t.step (y.2.step m))))
answers_decided (Compact_within_by s from units ranges) g g' h h' known t a a' ms ms' x y =
    let e = within_decided s from units ranges g.space g'.space h.space h'.space known t.space x.0 y.0 ms ms' x.2.step y.2.step in
    moving Progressed x.0 y.0 a a' ms ms' h h' x.1 y.1 (e.0, e.1, slid_twins g g' h h' t x.2.serials y.2.serials x.2.sizes e.2)
answers_decided (Make_room n align) g g' h h' known t a a' ms ms' x y = moving Room_made x.0 y.0 a a' ms ms' h h' x.1 y.1
    (stepped g g' h h' x.0 y.0 ms ms' t x.2.sizes x.2.serials y.2.serials
    (λ e f.
    let p = x.2.none e in
    let q = y.2.none f in
    (p.0 ∙ sym q.0, p.2 ∙ sym q.2, p.1, q.1))
    (λ l m. noted_by_decided g.step want blocks g.space g'.space h.space h'.space known t.space x.0 y.0 ms ms' (x.2.cost l)
    (subst (λ s. IsLeastCostBy s want (names_short blocks g'.space) g'.space.blocks y.0) t.step (y.2.cost m)) (x.2.step l)
    (subst (λ s. MakesRoomBy Notes s want (names_short blocks g'.space) g'.space [] y.0 h'.space ms') t.step (y.2.step m))))
  where
    want : ℕ
    want = value (up (units_needed n align))

    blocks : ℕ
    blocks = blocks_needed align
answers_decided (Make_room_by n align s) g g' h h' known t a a' ms ms' x y =
    let e = noted_by_decided s (value (up (units_needed n align))) (blocks_needed align) g.space g'.space h.space h'.space known t.space x.0 y.0 ms ms' x.2.cost y.2.cost x.2.step y.2.step in
    moving Room_made x.0 y.0 a a' ms ms' h h' x.1 y.1 (e.0, e.1, slid_twins g g' h h' t x.2.serials y.2.serials x.2.sizes e.2)
answers_decided (Make_room_unaligned n) g g' h h' known t a a' ms ms' x y =
    let e = noted_decided (value (up n)) g.space g'.space h.space h'.space known t.space x.0 y.0 ms ms' x.2.cost y.2.cost x.2.step y.2.step in
    moving Room_made x.0 y.0 a a' ms ms' h h' x.1 y.1 (e.0, e.1, slid_twins g g' h h' t x.2.serials y.2.serials x.2.sizes e.2)
