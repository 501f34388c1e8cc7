-- The same call in the same state, with the same handles kept, has the same reply, and leaves the same state and handles.
use Rattle.offset_calls.proofs.Common.{◌≡◌, ℕ, zero, suc, Bool, true, false, List, [], ◌∷◌, length, Option, Some, None, IfSome, refl, sym, ap, ap₂, subst, ◌∙◌, inl, inr, arith, subst₂, is_some}
use Rattle.offset_calls.proofs.Common.{option_map, if◌then◌else◌, cases_eq, cases_lt, false≢true, View, Handle, IsWellFormed, kept_name, IfNamed, Stays, IsKept, Call, Command, Reply, Answer, Move}
use Rattle.offset_calls.proofs.Common.{Range, Takes, AreNumbered, IsReason, size_of, blocks_needed, units_needed}
use Rattle.offset_allocator.specs.Relations.{SameState, SameSpace, Splits, Allocates, Aligns, Extends}
use Rattle.offset_allocator.specs.{Classes.value, Classes.up, Ranges.range_of, Ranges.Grants, Ranges.IsLive, Ranges.KeepsOthers, Moving.Relocating.Relocates, Resizing.Grows, Resizing.HasUnits}
use Rattle.offset_allocator.specs.Moving.BySteps.{CompactsBy, moves_by}
use Rattle.offset_allocator.specs.Moving.Relocating.{RelocatesAligned}
use Rattle.offset_allocator.proofs.Decided.{relocates_aligned_decided}
use Rattle.offset_allocator.proofs.{Moving.DecidedSteps.compacts_by_decided, Moving.Stepped.steps_live}
use Rattle.offset_allocator.specs.{Resizing.Resizes, Resizing.Shrinks, Moving.Retracting.Retracts, Moving.Room.MakesRoom, Tight.AlignsTight, View.padding_to}
use Rattle.offset_allocator.specs.declared.reports.Refusal.{Refusal}
use Rattle.offset_allocator.specs.declared.moves.room.RoomCost.{RoomCost}
use Rattle.offset_allocator.specs.Moving.Compacting as named
use Rattle.offset_allocator.proofs.Decided.{aligns_decided, allocates_decided, filled_grants, relocates_decided, tight_decided}
use Rattle.offset_allocator.proofs.DecidedChanges.{compacts_decided, extends_decided, frees_decided, grows_decided, resets_decided, retracts_decided, shrinks_decided}
use Rattle.offset_allocator.specs.AtOffset.{AllocatesAt}
use Rattle.offset_allocator.proofs.AtOffset.{at_grants}
use Rattle.offset_allocator.proofs.AtOffset.{at_decided}
use Rattle.offset_calls.specs.Steps.{TakesAt}
use Rattle.offset_allocator.specs.Moving.Budget.{CompactsWithin}
use Rattle.offset_allocator.specs.Moving.RoomBySteps.{MakesRoomBy, names_short}
use Rattle.offset_allocator.specs.declared.moves.over_frames.Progress.{Progress}
use Rattle.offset_allocator.proofs.Moving.Budgeted as budget
use Rattle.offset_allocator.proofs.Moving.DecidedBudget.{within_decided}
use Rattle.offset_allocator.proofs.{Moving.DecidedRooms.least_by_decided, Moving.DecidedRoomsBySteps.noted_by_decided}
use Rattle.offset_allocator.proofs.Moving.RoomsBySteps.{slides_by_live}
use Rattle.offset_allocator.proofs.{Moving.DecidedRooms.least_decided, Moving.DecidedRooms.noted_decided, Advice.one_reason, Holding.tight_one_reason}
use Rattle.offset_allocator.proofs.{Moving.Packed.compacts_sizes, Moving.Packed.live_sizes, Moving.Rooms.slides_live}
use Rattle.offset_allocator.proofs.Ranges.{adds_keep, cuts_keep, frees_others, resizes_others, resizes_units, split_grants}
use Rattle.offset_script.proofs.Held.{held_freed, held_granted, held_kept, held_none, held_pushed, held_stays, may_be_kept}
use Rattle.offset_script.specs.Steps.{AreHeld, AreNamedApart}
use Rattle.offset_script.specs.Steps as script
use Rattle.offset_script.specs.Machine as machine
use Rattle.offset_script.specs.declared.scripts.Command.TheVariants as command
use Rattle.offset_calls.specs.declared.calls.Call.TheVariants as call
use Rattle.offset_calls.specs.declared.calls.LiveRange.{LiveRange}
use Rattle.offset_calls.specs.Steps.{begins_at, TakesSlide}
use Rattle.offset_calls.specs.declared.sliding.Slid.{Slid}
use Rattle.offset_calls.specs.declared.sliding.Slid.TheVariants as came
use Rattle.offset_calls.proofs.Begun.{begin_counted, same_begin}
use Rattle.offset_calls.specs.Calls as plain
use Rattle.offset_calls.specs.{Histories.Runs, Slides.IsSlid, Slides.Notes, Slides.done, Slides.slid_reply, Slides.so_far, Steps.Finds, Steps.IsNumbered, Steps.IsReasonTight, Steps.TakesTight}

-- ---- parts of steps
-- where a name is kept, and where none is
both_named : (o : Option ℕ) (P P' : ℕ → Type 0) (Q Q' A : Type 0) → ((x : ℕ) → P x → P' x → A) → (Q → Q' → A) → IfNamed o P Q → IfNamed o P' Q' → A
both_named None P P' Q Q' A f g t t' = g t t'
both_named (Some x) P P' Q Q' A f g t t' = f x t t'

kept_decided : (r r' : Option Handle) → r ≡ r' → (hs left left' : List (Option Handle)) (a a' : machine.Answer) → IsKept r hs left a → IsKept r' hs left' a' → (left ≡ left') × (a ≡ a')
kept_decided r r' e hs left left' a a' k k' = go r k (subst (λ o. IsKept o hs left' a') (sym e) k')
  where
    go : (r : Option Handle) → IsKept r hs left a → IsKept r hs left' a' → (left ≡ left') × (a ≡ a')
    go None k k' = (k.0 ∙ sym k'.0, k.1 ∙ sym k'.1)
    go (Some h) k k' =
        let same = k.0 ∙ sym k'.0 in
        (same, k.1 ∙ ap (λ (l : List (Option Handle)). machine.Grant (length l) h.offset) same ∙ sym k'.1)

-- the number of a kept name
same_moves : (hs : List (Option Handle)) → AreNamedApart hs → (xs : List named.Move) (ms ms' : List Move) → AreNumbered hs xs ms → AreNumbered hs xs ms' → ms ≡ ms'
same_moves hs apart [] [] [] n m = refl
same_moves hs apart [] [] (m' ∷ ms') n m = absurd m
same_moves hs apart [] (m ∷ ms) ms' n k = absurd n
same_moves hs apart (x ∷ xs) [] ms' n k = absurd n
same_moves hs apart (x ∷ xs) (m ∷ ms) [] n k = absurd k
same_moves hs apart (x ∷ xs) (m ∷ ms) (m' ∷ ms') n k =
    let number : m.number ≡ m'.number = apart m.number m'.number x.name n.0 k.0 in
    let from : m.from ≡ m'.from = n.1 ∙ sym k.1 in
    let to : m.to ≡ m'.to = n.2 ∙ sym k.2 in
    let size : m.size ≡ m'.size = n.3 ∙ sym k.3 in
    let same : m ≡ m' = ap₂ (λ (k f : ℕ). let q : Move = record { number = k; from = f; to = m.to; size = m.size } in q) number from
    ∙ ap₂ (λ (t u : ℕ). let q : Move = record { number = m'.number; from = m'.from; to = t; size = u } in q) to size in
    ap₂ (λ (a : Move) (l : List Move). a ∷ l) same (same_moves hs apart xs ms ms' n.4 k.4)

same_range : (hs : List (Option Handle)) → AreNamedApart hs → (g : Option Handle) (r r' : Option LiveRange) → IsNumbered hs g r → IsNumbered hs g r' → r ≡ r'
same_range hs apart None None None n k = refl
same_range hs apart None None (Some r') n k = absurd k
same_range hs apart None (Some r) r' n k = absurd n
same_range hs apart (Some g) None r' n k = absurd n
same_range hs apart (Some g) (Some r) None n k = absurd k
same_range hs apart (Some g) (Some r) (Some r') n k =
    let number : r.number ≡ r'.number = apart r.number r'.number g.name n.0 k.0 in
    let offset : r.offset ≡ r'.offset = n.1 ∙ sym k.1 in
    ap Some (ap₂ (λ (k o : ℕ). let q : LiveRange = record { number = k; offset = o } in q) number offset)

finds_same : (hs : List (Option Handle)) → AreNamedApart hs → (g : Option Handle) (r r' : Reply) → Finds hs g r → Finds hs g r' → r ≡ r'
finds_same hs apart g r r' f k = f.2 ∙ ap plain.Found (same_range hs apart g f.0 k.0 f.1 k.1) ∙ sym k.2

same_reason : (v : View) → IsWellFormed v → (blocks units : ℕ) (r r' : Option Refusal) → IsReason blocks units v r → IsReason blocks units v r' → r ≡ r'
same_reason v known blocks units None None a b = refl
same_reason v known blocks units None (Some s) a b = sym (b.0.1 (a.0.0 refl))
same_reason v known blocks units (Some r) None a b = a.0.1 (b.0.0 refl)
same_reason v known blocks units (Some r) (Some s) a b = ap Some (one_reason v known blocks units r s a.1 b.1)

same_reason_tight : (v : View) → IsWellFormed v → (n align : ℕ) (r r' : Option Refusal) → IsReasonTight n align v r → IsReasonTight n align v r' → r ≡ r'
same_reason_tight v known n align None None a b = refl
same_reason_tight v known n align None (Some s) a b = sym (b.0.1 (a.0.0 refl))
same_reason_tight v known n align (Some r) None a b = a.0.1 (b.0.0 refl)
same_reason_tight v known n align (Some r) (Some s) a b = ap Some (tight_one_reason v known n align r s a.1 b.1)

-- no handle is kept
none_kept : (l m : List (Option Handle)) → length l ≡ length m → ((k : ℕ) → kept_name l k ≡ None) → ((k : ℕ) → kept_name m k ≡ None) → l ≡ m
none_kept [] [] e f g = refl
none_kept [] (y ∷ m) e f g = absurd (cc)
none_kept (x ∷ l) [] e f g = absurd (cc)
none_kept (x ∷ l) (y ∷ m) e f g =
    let rest : length l ≡ length m = cc in
    ap₂ (λ (o : Option Handle) (k : List (Option Handle)). o ∷ k) (none x (f 1) ∙ sym (none y (g 1))) (none_kept l m rest (later x l f) (later y m g))
  where
    none : (o : Option Handle) → option_map (λ (h : Handle). h.name) o ≡ None → o ≡ None
    none None e = refl
    none (Some h) e = absurd (cc)

    later : (o : Option Handle) (l : List (Option Handle)) → ((k : ℕ) → kept_name (o ∷ l) k ≡ None) → (k : ℕ) → kept_name l k ≡ None
    later o l f zero = refl
    later o l f (suc k) = f (suc (suc k))

-- ---- steps
abbrev AreSame : {A : Type 0} → A → A → View → View → List (Option Handle) → List (Option Handle) → Type 0
AreSame a a' w w' left left' = (a ≡ a') × SameState w w' × (left ≡ left')

module _ (v : View) (known : IsWellFormed v) (accesses : ℕ) (w w' : View) (hs left left' : List (Option Handle)) (apart : AreNamedApart hs) where
  abbrev z : View
  z = record v { accesses = accesses }

  stay : {A : Type 0} (a a' : A) → a ≡ a' → Stays v hs w left → Stays z hs w' left' → AreSame a a' w w' left left'
  stay a a' e s t = (e, subst₂ SameState (sym s.0) (sym t.0) refl, s.1 ∙ sym t.1)

  granted : (r r' : Option Handle) → (r ≡ r') × SameState w w' → (a a' : machine.Answer) → IsKept r hs left a → IsKept r' hs left' a' → AreSame a a' w w' left left'
  granted r r' e a a' k k' = let q = kept_decided r r' e.0 hs left left' a a' k k' in (q.1, e.1, q.0)

  answered : (a a' : machine.Answer) (r r' : Reply) → r ≡ Answer a → r' ≡ Answer a' → AreSame a a' w w' left left' → AreSame r r' w w' left left'
  answered a a' r r' e f s = (e ∙ ap Answer s.0 ∙ sym f, s.1, s.2)

  command_decided : (c : Command) (a a' : machine.Answer) → script.Takes c v hs w left a → script.Takes c z hs w' left' a' → AreSame a a' w w' left left'
  command_decided (command.Alloc n) a a' t k = granted t.0 k.0 (allocates_decided n v z w w' known refl t.0 k.0 t.1 k.1) a a' t.2 k.2
  command_decided (command.Free i) a a' t k = both_named (kept_name hs i) _ _ _ _ _ (λ x f g. (f.2 ∙ sym g.2, frees_decided x v z w w' known refl f.0 g.0, f.1 ∙ sym g.1))
      (λ f g. stay a a' (f.1 ∙ sym g.1) f.0 g.0) t k
  command_decided (command.Size i) a a' t k = stay a a' (both_named (kept_name hs i) _ _ _ _ _ (λ x f g. f ∙ sym g) (λ f g. f ∙ sym g) t.1 k.1) t.0 k.0
  command_decided command.Report a a' t k = stay a a' (t.1 ∙ sym k.1) t.0 k.0
  command_decided command.Full a a' t k = stay a a' (t.1 ∙ sym k.1) t.0 k.0
  command_decided command.Reset a a' t k = (t.3 ∙ sym k.3, resets_decided v z w w' known refl t.0 k.0, none_kept left left' (t.1 ∙ sym k.1) t.2 k.2)
  command_decided (command.Align n align) a a' t k = granted t.0 k.0 (aligns_decided n align v z w w' known refl t.0 k.0 t.1 k.1) a a' t.2 k.2
  command_decided (command.Extend more) a a' t k =
      let e = extends_decided more v z w w' known refl t.0 k.0 t.1 k.1 in
      (t.3 ∙ ap (λ (d : Bool). if d then machine.Extended else machine.Refused) e.0 ∙ sym k.3, e.1, t.2 ∙ sym k.2)

  tight_taken : (n align : ℕ) (r r' : Reply) → TakesTight n align v hs w left r → TakesTight n align z hs w' left' r' → AreSame r r' w w' left left'
  tight_taken n align r r' t k = answered t.1 k.1 r r' t.4 k.4 (granted t.0 k.0 (tight_decided n align v z w w' known refl t.0 k.0 t.2 k.2) t.1 k.1 t.3 k.3)

  at_taken : (offset n : ℕ) (r r' : Reply) → TakesAt offset n v hs w left r → TakesAt offset n z hs w' left' r' → AreSame r r' w w' left left'
  at_taken offset n r r' t k = answered t.1 k.1 r r' t.4 k.4 (granted t.0 k.0 (at_decided offset n v z w w' known refl t.0 k.0 t.2 k.2) t.1 k.1 t.3 k.3)

  slid_same : (c : Call) (o o' : Slid) (xs ys : List named.Move) → IsSlid c v o w xs → IsSlid c z o' w' ys → (o ≡ o') × (xs ≡ ys) × SameState w w'
  slid_same call.Compact o o' xs ys t k = (t.1 ∙ sym k.1, t.2 ∙ sym k.2, compacts_decided v z w w' refl t.0 k.0)
  slid_same (call.CompactBy n) o o' xs ys t k =
      let s = compacts_by_decided n v z w w' refl t.0 k.0 t.1 k.1 in
      (t.2 ∙ ap done s.0 ∙ sym k.2, t.3 ∙ ap (λ (d : Bool). if d then moves_by n 0 0 v.blocks else []) s.0 ∙ sym k.3, s.1)
  slid_same (call.CompactWithin n from u m) o o' xs ys t k =
      let s = within_decided n from u m v z w w' known refl t.0 k.0 xs ys t.1 k.1 in (t.2 ∙ ap so_far s.0 ∙ sym k.2, s.1, s.2)
  slid_same (call.MakeRoom n) o o' xs ys t k =
      let s = noted_decided (value (up n)) v z w w' known refl t.0 k.0 xs ys t.1 k.1 t.2 k.2 in (t.3 ∙ ap came.RoomMade s.0 ∙ sym k.3, s.1, s.2)
  slid_same (call.MakeRoomBy n align m) o o' xs ys t k =
      let s = noted_by_decided m (value (up (units_needed n align))) (blocks_needed align) v z w w' known refl t.0 k.0 xs ys t.1 k.1 t.2 k.2 in
      (t.3 ∙ ap came.RoomMade s.0 ∙ sym k.3, s.1, s.2)
  slid_same other o o' xs ys t k = absurd t

  slide_taken : (c : Call) (r r' : Reply) → TakesSlide c v hs w r → TakesSlide c z hs w' r' → left ≡ hs → left' ≡ hs → AreSame r r' w w' left left'
  slide_taken c r r' t k e f =
      let s = slid_same c t.0 k.0 t.1 k.1 t.2 k.2 in
      let same = same_moves hs apart k.1 t.3 k.3 (subst (λ xs. AreNumbered hs xs t.3) s.1 t.4) k.4 in
      (t.5 ∙ ap₂ slid_reply s.0 same ∙ sym k.5, s.2, e ∙ sym f)

  resized_taken : (d d' : Bool) (r r' : Reply) → (d ≡ d') × SameState w w' → left ≡ hs → left' ≡ hs → r ≡ (if d then plain.Resized else Answer machine.Refused) → r' ≡ (if d' then plain.Resized else Answer machine.Refused)
      → AreSame r r' w w' left left'
  resized_taken d d' r r' e l l' s t = (s ∙ ap (λ (b : Bool). if b then plain.Resized else Answer machine.Refused) e.0 ∙ sym t, e.1, l ∙ sym l')

  takes_same : (c : Call) (r r' : Reply) → Takes c v hs w left r → Takes c z hs w' left' r' → AreSame r r' w w' left left'
  takes_same (call.Command c) r r' t k = answered t.0 k.0 r r' t.2 k.2 (command_decided c t.0 k.0 t.1 k.1)
  takes_same (call.Shrink i n) r r' t k = both_named (kept_name hs i) _ _ _ _ _
      (λ x f g. resized_taken f.0 g.0 r r' (shrinks_decided x n v z w w' known refl f.0 g.0 f.1 g.1) f.2 g.2 f.3 g.3) (λ f g. stay r r' (f.1 ∙ sym g.1) f.0 g.0) t k
  takes_same (call.Grow i n) r r' t k = both_named (kept_name hs i) _ _ _ _ _
      (λ x f g. resized_taken f.0 g.0 r r' (grows_decided x n v z w w' known refl f.0 g.0 f.1 g.1) f.2 g.2 f.3 g.3) (λ f g. stay r r' (f.1 ∙ sym g.1) f.0 g.0) t k
  takes_same call.Compact r r' t k = slide_taken call.Compact r r' t.0 k.0 t.1 k.1
  takes_same (call.CompactBy n) r r' t k = slide_taken (call.CompactBy n) r r' t.0 k.0 t.1 k.1
  takes_same (call.CompactWithin n from u m) r r' t k = slide_taken (call.CompactWithin n from u m) r r' t.0 k.0 t.1 k.1
  takes_same (call.Offset i) r r' t k = stay r r'
      (both_named (kept_name hs i) _ _ _ _ _ (λ x f g. let same : f.0 ≡ g.0 = let q = sym f.1 ∙ g.1 in cc in f.2 ∙ ap plain.Offset same ∙ sym g.2) (λ f g. f ∙ sym g) t.1 k.1) t.0 k.0
  takes_same (call.Refusal n) r r' t k = stay r r' (t.1.2 ∙ ap plain.Refusal (same_reason v known 1 n t.1.0 k.1.0 t.1.1 k.1.1) ∙ sym k.1.2) t.0 k.0
  takes_same (call.RefusalAligned n align) r r' t k = stay r r'
      (t.1.2 ∙ ap plain.Refusal (same_reason v known (blocks_needed align) (units_needed n align) t.1.0 k.1.0 t.1.1 k.1.1) ∙ sym k.1.2) t.0 k.0
  takes_same (call.AllocateTight n) r r' t k = tight_taken n 1 r r' t k
  takes_same (call.AllocateTightAligned n align) r r' t k = tight_taken n align r r' t k
  takes_same (call.AllocateAt offset n) r r' t k = at_taken offset n r r' t k
  takes_same (call.RefusalTight n) r r' t k = stay r r' (t.1.2 ∙ ap plain.Refusal (same_reason_tight v known n 1 t.1.0 k.1.0 t.1.1 k.1.1) ∙ sym k.1.2) t.0 k.0
  takes_same (call.RefusalTightAligned n align) r r' t k = stay r r' (t.1.2 ∙ ap plain.Refusal (same_reason_tight v known n align t.1.0 k.1.0 t.1.1 k.1.1) ∙ sym k.1.2) t.0 k.0
  takes_same (call.WouldBegin n align) r r' t k = stay r r' (t.2.2 ∙ ap begins_at (same_begin v known n align t.1 t.2.0 k.2.0 t.2.1 (begin_counted n align v accesses k.2.0 k.2.1)) ∙ sym k.2.2) t.0 k.0
  takes_same (call.MakeRoom n) r r' t k = slide_taken (call.MakeRoom n) r r' t.0 k.0 t.1 k.1
  takes_same (call.MakeRoomBy n align m) r r' t k = slide_taken (call.MakeRoomBy n align m) r r' t.0 k.0 t.1 k.1
  takes_same (call.RoomCost n) r r' t k = stay r r' (t.1.2 ∙ ap plain.RoomCost (least_decided (value (up n)) v.blocks t.1.0 k.1.0 t.1.1 k.1.1) ∙ sym k.1.2) t.0 k.0
  takes_same (call.RoomCostBy n align m) r r' t k = stay r r' (t.1.2
      ∙ ap plain.RoomCost (least_by_decided m (value (up (units_needed n align))) (names_short (blocks_needed align) v) v.blocks t.1.0 k.1.0 t.1.1 k.1.1) ∙ sym k.1.2) t.0 k.0
  takes_same (call.Relocate i) r r' t k = both_named (kept_name hs i) _ _ _ _ _
      (λ x f g. answered f.1 g.1 r r' f.4 g.4 (granted f.0 g.0 (relocates_decided x v z w w' known refl f.0 g.0 f.2 g.2) f.1 g.1 f.3 g.3)) (λ f g. stay r r' (f.1 ∙ sym g.1) f.0 g.0) t k
  takes_same (call.RelocateAligned i align) r r' t k = both_named (kept_name hs i) _ _ _ _ _
      (λ x f g. answered f.1 g.1 r r' f.4 g.4 (granted f.0 g.0 (relocates_aligned_decided x align v z w w' t.0 known refl f.0 g.0 f.2 g.2) f.1 g.1 f.3 g.3)) (λ f g. stay r r' (f.1 ∙ sym g.1) f.0 g.0) t.1 k.1
  takes_same (call.Retract n) r r' t k = resized_taken t.0 k.0 r r' (retracts_decided n v z w w' refl t.0 k.0 t.1 k.1) t.2 k.2 t.3 k.3
  takes_same call.FirstLive r r' t k = stay r r' (finds_same hs apart _ r r' t.1 k.1) t.0 k.0
  takes_same call.LastLive r r' t k = stay r r' (finds_same hs apart _ r r' t.1 k.1) t.0 k.0
  takes_same (call.LiveBefore i) r r' t k = stay r r' (both_named (kept_name hs i) _ _ _ _ _ (λ x f g. finds_same hs apart _ r r' f g) (λ f g. f ∙ sym g) t.1 k.1) t.0 k.0
  takes_same (call.LiveAfter i) r r' t k = stay r r' (both_named (kept_name hs i) _ _ _ _ _ (λ x f g. finds_same hs apart _ r r' f g) (λ f g. f ∙ sym g) t.1 k.1) t.0 k.0

pub takes_decided : (c : Call) (v v' w w' : View) → IsWellFormed v → SameState v v' → (hs left left' : List (Option Handle)) → AreNamedApart hs → (r r' : Reply) → Takes c v hs w left r
    → Takes c v' hs w' left' r' → (r ≡ r') × SameState w w' × (left ≡ left')
takes_decided c v v' w w' known same hs left left' apart r r' t k = takes_same v known v'.accesses w w' hs left left' apart c r r' t (subst (λ z. Takes c z hs w' left' r') same k)

-- ---- handles
-- ranges that keep their sizes stay live
held_sized : (v w : View) (hs : List (Option Handle)) → named.KeepsSizes v w → AreHeld v hs → AreHeld w hs
held_sized v w hs same h = record {
  live = λ k x e. sym (some_size (range_of x w)) ∙ ap is_some (same x) ∙ some_size (range_of x v) ∙ h.live k x e;
  apart = h.apart;
}
  where
    some_size : (o : Option Range) → is_some (option_map (λ (r : Range). r.size) o) ≡ is_some o
    some_size None = refl
    some_size (Some r) = refl

-- so do one that has another size, and all others
held_resized : (x n : ℕ) (v w : View) (hs : List (Option Handle)) → HasUnits x n v w → KeepsOthers x v w → AreHeld v hs → AreHeld w hs
held_resized x n v w hs here others h = record {
  live = λ k y e. elim (cases_eq y x) [
    | inl s ↦ subst (λ z. IsLive z w) (sym s) (still (range_of x v) refl (subst (λ z. IsLive z v) s (h.live k y e)))
    | inr d ↦ ap is_some (others y d) ∙ h.live k y e
  ];
  apart = h.apart;
}
  where
    still : (o : Option Range) → range_of x v ≡ o → IsLive x v → IsLive x w
    still None e live = absurd (false≢true (sym (ap is_some e) ∙ live))
    still (Some r) e live = ap is_some (here r e)

module _ (v w : View) (known : IsWellFormed v) (after : IsWellFormed w) (hs left : List (Option Handle)) (h : AreHeld v hs) where
  same_held : left ≡ hs → AreHeld w hs → AreHeld w left
  same_held e k = subst (AreHeld w) (sym e) k

  -- after a request
  request_held : (n : ℕ) (r : Option Handle) (a : machine.Answer) → IfSome r (Grants n v w) → (r ≡ None → SameSpace v w) → IsKept r hs left a → AreHeld w left
  request_held n None a g same k = same_held k.0 (held_granted n v w hs None g same h)
  request_held n (Some x) a g same k = held_pushed hs x w left k.0 (may_be_kept n v w hs (Some x) g h) (held_granted n v w hs (Some x) g same h)

  split_held : (needed n : ℕ) (padding_at : ℕ → ℕ) (g : Handle) (a : machine.Answer) → Splits needed n padding_at v w g → IsKept (Some g) hs left a → AreHeld w left
  split_held needed n padding_at g a s k = request_held n (Some g) a (split_grants s known after) (λ e. absurd (cc)) k

  -- after a refusal
  refusal_held : (a : machine.Answer) → SameState v w → IsKept None hs left a → AreHeld w left
  refusal_held a same k = same_held k.0 (held_kept v w hs (λ x. ap (range_of x) same) h)

  allocated_held : (n : ℕ) (r : Option Handle) (a : machine.Answer) → Allocates n v w r → IsKept r hs left a → AreHeld w left
  allocated_held n None a t k = refusal_held a t.1 k
  allocated_held n (Some g) a t k = split_held n n (λ o. 0) g a t.1 k

  aligned_held : (n align : ℕ) (r : Option Handle) (a : machine.Answer) → Aligns n align v w r → IsKept r hs left a → AreHeld w left
  aligned_held n align None a t k = refusal_held a t.1 k
  aligned_held n align (Some g) a t k = split_held (units_needed n align) n (padding_to align) g a t.1 k

  tight_held : (n align : ℕ) (r : Option Handle) (a : machine.Answer) → AlignsTight n align v w r → IsKept r hs left a → AreHeld w left
  tight_held n align None a t k = refusal_held a t.1 k
  tight_held n align (Some g) a (inl t) k = split_held (units_needed n align) n (padding_to align) g a t.1 k
  tight_held n align (Some g) a (inr t) k = request_held n (Some g) a (filled_grants n align v known w after g t.1) (λ e. absurd (cc)) k

  at_held : (offset n : ℕ) (r : Option Handle) (a : machine.Answer) → AllocatesAt offset n v w r → IsKept r hs left a → AreHeld w left
  at_held offset n None a t k = refusal_held a t.1 k
  at_held offset n (Some g) a t k = request_held n (Some g) a (at_grants offset n v w known (Some g) t) (λ e. absurd (cc)) k

  relocated_held : (x : ℕ) (r : Option Handle) (a : machine.Answer) → Relocates x v w r → IsKept r hs left a → AreHeld w left
  relocated_held x None a t k = refusal_held a t.1 k
  relocated_held x (Some g) a t k = split_held (size_of x v) (size_of x v) (λ o. 0) g a t.0.1 k

  aligned_relocated_held : (x align : ℕ) (r : Option Handle) (a : machine.Answer) → RelocatesAligned x align v w r → IsKept r hs left a → AreHeld w left
  aligned_relocated_held x align None a t k = refusal_held a t.1 k
  aligned_relocated_held x align (Some g) a t k = split_held (units_needed (size_of x v) align) (size_of x v) (padding_to align) g a t.0.1 k

  -- where nothing changes, or one range has another size
  state_held : SameState v w → AreHeld w hs
  state_held same = held_kept v w hs (λ x. ap (range_of x) same) h

  sized_held : (x n : ℕ) → Resizes x n v w → AreHeld w hs
  sized_held x n s = held_resized x n v w hs (resizes_units x n v w known after s) (resizes_others x n v w known after s) h

  stays_held : Stays v hs w left → AreHeld w left
  stays_held same = held_stays v w hs left same h

  either : (o : Option ℕ) (P : ℕ → Type 0) (Q A : Type 0) → ((x : ℕ) → o ≡ Some x → P x → A) → (Q → A) → IfNamed o P Q → A
  either None P Q A f g t = g t
  either (Some x) P Q A f g t = f x refl t

  extended_held : (more : ℕ) (d : Bool) → Extends more v w d → AreHeld w hs
  extended_held more true (inl e) = state_held e.1
  extended_held more true (inr e) = held_kept v w hs (adds_keep v w known after more e.2) h
  extended_held more false e = state_held e.2

  shrunk_held : (x n : ℕ) (d : Bool) → Shrinks x n v w d → AreHeld w hs
  shrunk_held x n true (inl e) = state_held e.1
  shrunk_held x n true (inr e) = sized_held x n e.2
  shrunk_held x n false e = state_held e.1

  grown_held : (x n : ℕ) (d : Bool) → Grows x n v w d → AreHeld w hs
  grown_held x n true (inl e) = state_held e.1
  grown_held x n true (inr e) = sized_held x n e.2
  grown_held x n false e = state_held e.1

  retracted_held : (less : ℕ) (d : Bool) → Retracts less v w d → AreHeld w hs
  retracted_held less true (inl e) = state_held e.1
  retracted_held less true (inr e) = held_kept v w hs (cuts_keep v w known after less e.1) h
  retracted_held less false e = state_held e.2

  stepped_held : (n : ℕ) (d : Bool) → CompactsBy n v w d → AreHeld w hs
  stepped_held n true (inl e) = state_held e.1
  stepped_held n true (inr e) = held_sized v w hs (live_sizes v w known after (steps_live n v w e.1)) h
  stepped_held n false e = state_held e.2

  room_held : {F : Type 0} (R : F → named.Move → F → Type 0) (want : ℕ) (f g : F) (c : Option RoomCost) → MakesRoom R want v f c w g → AreHeld w hs
  room_held R want f g None s = state_held s.0
  room_held R want f g (Some c) s = elim (cases_lt 0 c.ranges) [
    | inl l ↦ held_sized v w hs (live_sizes v w known after (slides_live want v w (s.1 l).0)) h
    | inr l ↦ state_held (s.0 (omega (arith, l))).0
  ]

  room_by_held : {F : Type 0} (R : F → named.Move → F → Type 0) (m want short : ℕ) (f g : F) (c : Option RoomCost) → MakesRoomBy R m want short v f c w g → AreHeld w hs
  room_by_held R m want short f g None s = state_held s.0
  room_by_held R m want short f g (Some c) s = elim (cases_lt 0 c.ranges) [
    | inl l ↦ held_sized v w hs (live_sizes v w known after (slides_by_live m want short v w (s.1 l).0)) h
    | inr l ↦ state_held (s.0 (omega (arith, l))).0
  ]

  within_held : {F : Type 0} (R : F → named.Move → F → Type 0) (n from u k : ℕ) (f g : F) (c : Option Progress) → CompactsWithin R n from u k v f c w g → AreHeld w hs
  within_held R n from u k f g None s = state_held s.0
  within_held R n from u k f g (Some c) (inl s) = state_held s.2
  within_held R n from u k f g (Some c) (inr s) = held_sized v w hs (live_sizes v w known after (budget.slides_live n from u k v w c s.0)) h

  command_held : (c : Command) (a : machine.Answer) → script.Takes c v hs w left a → AreHeld w left
  command_held (command.Alloc n) a t = allocated_held n t.0 a t.1 t.2
  command_held (command.Free i) a t =
      either (kept_name hs i) _ _ _ (λ x e u. subst (AreHeld w) (sym u.1) (held_freed v w hs i x e (frees_others x v w known after u.0) h)) (λ u. stays_held u.0) t
  command_held (command.Size i) a t = stays_held t.0
  command_held command.Report a t = stays_held t.0
  command_held command.Full a t = stays_held t.0
  command_held command.Reset a t = held_none w left t.2
  command_held (command.Align n align) a t = aligned_held n align t.0 a t.1 t.2
  command_held (command.Extend more) a t = same_held t.2 (extended_held more t.0 t.1)

  pub takes_held : (c : Call) (r : Reply) → Takes c v hs w left r → AreHeld w left
  takes_held (call.Command c) r t = command_held c t.0 t.1
  takes_held (call.Shrink i n) r t = either (kept_name hs i) _ _ _ (λ x e u. same_held u.2 (shrunk_held x n u.0 u.1)) (λ u. stays_held u.0) t
  takes_held (call.Grow i n) r t = either (kept_name hs i) _ _ _ (λ x e u. same_held u.2 (grown_held x n u.0 u.1)) (λ u. stays_held u.0) t
  takes_held call.Compact r t = same_held t.1 (held_sized v w hs (compacts_sizes v w known t.0.2.0) h)
  takes_held (call.CompactBy n) r t = same_held t.1 (stepped_held n t.0.2.0 t.0.2.1)
  takes_held (call.CompactWithin n from u k) r t = same_held t.1 (within_held Notes n from u k [] t.0.1 t.0.2.0 t.0.2.1)
  takes_held (call.Offset i) r t = stays_held t.0
  takes_held (call.Refusal n) r t = stays_held t.0
  takes_held (call.RefusalAligned n align) r t = stays_held t.0
  takes_held (call.AllocateTight n) r t = tight_held n 1 t.0 t.1 t.2 t.3
  takes_held (call.AllocateTightAligned n align) r t = tight_held n align t.0 t.1 t.2 t.3
  takes_held (call.AllocateAt offset n) r t = at_held offset n t.0 t.1 t.2 t.3
  takes_held (call.RefusalTight n) r t = stays_held t.0
  takes_held (call.RefusalTightAligned n align) r t = stays_held t.0
  takes_held (call.MakeRoom n) r t = same_held t.1 (room_held Notes (value (up n)) [] t.0.1 t.0.2.0 t.0.2.2)
  takes_held (call.MakeRoomBy n align m) r t =
      same_held t.1 (room_by_held Notes m (value (up (units_needed n align))) (names_short (blocks_needed align) v) [] t.0.1 t.0.2.0 t.0.2.2)
  takes_held (call.WouldBegin n align) r t = stays_held t.0
  takes_held (call.RoomCost n) r t = stays_held t.0
  takes_held (call.RoomCostBy n align m) r t = stays_held t.0
  takes_held (call.Relocate i) r t = either (kept_name hs i) _ _ _ (λ x e u. relocated_held x u.0 u.1 u.2 u.3) (λ u. stays_held u.0) t
  takes_held (call.RelocateAligned i align) r t = either (kept_name hs i) _ _ _ (λ x e u. aligned_relocated_held x align u.0 u.1 u.2 u.3) (λ u. stays_held u.0) t.1
  takes_held (call.Retract n) r t = same_held t.2 (retracted_held n t.0 t.1)
  takes_held call.FirstLive r t = stays_held t.0
  takes_held call.LastLive r t = stays_held t.0
  takes_held (call.LiveBefore i) r t = stays_held t.0
  takes_held (call.LiveAfter i) r t = stays_held t.0

-- ---- runs
pub runs_decided : (cs : List Call) (v v' w w' : View) (hs kept kept' : List (Option Handle)) (rs rs' : List Reply) → IsWellFormed v → SameState v v' → AreHeld v hs → Runs v hs cs rs w kept
    → Runs v' hs cs rs' w' kept' → (rs ≡ rs') × SameState w w' × (kept ≡ kept')
runs_decided [] v v' w w' hs kept kept' [] [] known same h t k = (refl, subst₂ SameState (sym t.0) (sym k.0) same, t.1 ∙ sym k.1)
runs_decided [] v v' w w' hs kept kept' [] (r ∷ rs') known same h t k = absurd k
runs_decided [] v v' w w' hs kept kept' (r ∷ rs) rs' known same h t k = absurd t
runs_decided (c ∷ cs) v v' w w' hs kept kept' [] rs' known same h t k = absurd t
runs_decided (c ∷ cs) v v' w w' hs kept kept' (r ∷ rs) [] known same h t k = absurd k
runs_decided (c ∷ cs) v v' w w' hs kept kept' (r ∷ rs) (s ∷ rs') known same h t k =
    let e = takes_decided c v v' t.0 k.0 known same hs t.1 k.1 h.apart r s t.2 k.2 in
    let later = runs_decided cs t.0 k.0 w w' t.1 kept kept' rs rs' t.3 e.1 (takes_held v t.0 known t.3 hs t.1 h c r t.2) t.4 (subst (λ l. Runs k.0 l cs rs' w' kept') (sym e.2) k.4) in
    (ap₂ (λ (a : Reply) (l : List Reply). a ∷ l) e.0 later.0, later.1, later.2)
