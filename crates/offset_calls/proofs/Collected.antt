-- The moves that make room, as a closure collects them, and the numbers of the ranges that move.
use Rattle.offset_calls.proofs.Common.{◌≡◌, ℕ, ◌+◌, ◌<◌, Bool, true, false, List, [], ◌∷◌, ◌++◌, map, length, get_or, All, Option, Some, None, zero, suc, refl, sym, ap, subst, ◌∙◌, arith}
use Rattle.offset_calls.proofs.Common.{inl, inr, append_assoc, append-nil, cases_eq, AllByRecursion, FoldsTo, Block, Handle, View, kept_name, AreNumbered, Takes, Call, Reply, IsTrue}
use Rattle.offset_calls.proofs.Common.{move_view, drop, drop-cons, add-one, map-append, nat_eq, if◌then◌else◌}
use Rattle.offset_allocator.specs.declared.moves.room.RoomCost.{RoomCost}
use Rattle.offset_allocator.specs.Moving.Compacting.{Move, moves, move_of}
use Rattle.offset_allocator.specs.{Moving.Room.MakesRoom, View.units, Classes.value, Classes.up}
use Rattle.offset_allocator.proofs.Moving.Sliding.{moves_used, moves_idle}
use Rattle.offset_allocator.proofs.Moving.Stepping.{moves_by_used, moves_by_free}
use Rattle.offset_allocator.specs.Moving.BySteps.{moves_by}
use Rattle.offset_allocator.specs.Moving.RoomBySteps.{MakesRoomBy, names_short}
use Rattle.offset_allocator.specs.Moving.Budget.{CompactsWithin}
use Rattle.offset_allocator.specs.Requests.{blocks_needed, units_needed}
use Rattle.offset_allocator.specs.declared.moves.over_frames.Progress.{Progress}
use Rattle.offset_allocator.specs.Moving.BySteps as by
use Rattle.offset_calls.proofs.Rooms.{noted}
use Rattle.offset_calls.specs.declared.calls.Moved.{Moved}
use Rattle.std.specs.Prelude.{Result, Ok, Err, OnErr}
use Rattle.std.proofs.lemmas.List.{get_or_default}
use Rattle.offset_calls.specs.declared.calls.Call.TheVariants as call
use Rattle.offset_calls.specs.Calls.{Move as Numbered}
use Rattle.offset_calls.specs.declared.sliding.Slid.{Slid}
use Rattle.offset_calls.specs.{Calling.IsLost, Calling.slides, Steps.AreKept, Steps.TakesSlide, Slides.IsSlid, Slides.Notes, Slides.named_move, Slides.numbered_move, Slides.slid_reply}

-- ---- the moves that a closure has seen

notes_all : (acc ms : List Move) → FoldsTo Notes acc ms (acc ++ ms)
notes_all acc [] = sym (append-nil acc)
notes_all acc (m ∷ ms) = (acc ++ m ∷ [], refl, subst (FoldsTo Notes (acc ++ m ∷ []) ms) (append_assoc acc (m ∷ []) ms) (notes_all (acc ++ m ∷ []) ms))

module _ {P S N : Type 0} (R : P → Move → P → Type 0) (see : P → S) (place : P → N) (is_refused : S → Bool) (found : S → List Move)
    (each : (p : P) (x : Move) (q : P) → R p x q
    → (is_refused (see q) ≡ false → (is_refused (see p) ≡ false) × (m : Move) × (x ≡ m) × (found (see q) ≡ found (see p) ++ m ∷ [])) × (place q ≡ place p)) where
  seen_all : (xs : List Move) (p q : P) → FoldsTo R p xs q → (is_refused (see q) ≡ false → (is_refused (see p) ≡ false) × (found (see q) ≡ found (see p) ++ xs)) × (place q ≡ place p)
  seen_all [] p q e = ((λ h. (ap (λ x. is_refused (see x)) e ∙ h, ap (λ x. found (see x)) (sym e) ∙ sym (append-nil (found (see p))))), ap place (sym e))
  seen_all (x ∷ xs) p q f =
      let one = each p x f.0 f.1 in
      let rest = seen_all xs f.0 q f.2 in (
        (λ h.
            let r = rest.0 h in
            let o = one.0 r.0 in
            (o.0, r.1 ∙ ap (λ l. l ++ xs) (o.3 ∙ ap (λ y. found (see p) ++ y ∷ []) (sym o.2)) ∙ append_assoc (found (see p)) (x ∷ []) xs)),
        rest.1 ∙ one.1,
      )

  -- the moves that were seen, from none on
  pub all_seen : (xs : List Move) (p q : P) → FoldsTo R p xs q → found (see p) ≡ [] → (is_refused (see q) ≡ false → found (see q) ≡ xs) × (place q ≡ place p)
  all_seen xs p q f none = let r = seen_all xs p q f in ((λ h. (r.0 h).1 ∙ ap (λ l. l ++ xs) none), r.1)

-- ---- the names of the ranges that move

module _ (hs : List (Option Handle)) where
  -- a handle with this name is kept
  abbrev HasNumber : ℕ → Type 0
  HasNumber x = (k : ℕ) × (kept_name hs k ≡ Some x)

  abbrev BlocksHave : List Block → Type 0
  BlocksHave bs = AllByRecursion (λ (b : Block). b.used ≡ true → HasNumber b.name) bs

  abbrev MovesHave : List Move → Type 0
  MovesHave xs = AllByRecursion (λ (m : Move). HasNumber m.name) xs

  all_split : (xs ys : List Block) → BlocksHave (xs ++ ys) → BlocksHave xs × BlocksHave ys
  all_split [] ys a = (tt, a)
  all_split (x ∷ xs) ys a = let r = all_split xs ys a.1 in ((a.0, r.0), r.1)

  run_has : (front run back bs : List Block) → bs ≡ front ++ (run ++ back) → BlocksHave bs → BlocksHave run
  run_has front run back bs is a = (all_split run back (all_split front (run ++ back) (subst BlocksHave is a)).1).0

  move_has : (from to : ℕ) (b : Block) (ms : List Move) → HasNumber b.name → MovesHave ms → MovesHave (move_of from to b ++ ms)
  move_has from to b ms p a = elim (nat_eq from to) as (λ x. MovesHave ((if x then [] else record { name = b.name; from = from; to = to; size = b.size } ∷ []) ++ ms)) [ true ↦ a | false ↦ (p, a) ]

  moves_have : (from to : ℕ) (bs : List Block) → BlocksHave bs → MovesHave (moves from to bs)
  moves_have from to [] a = tt
  moves_have from to (b ∷ bs) a = go b.used refl (λ t. moves_have (from + b.size) t bs a.1)
    where
      go : (u : Bool) → b.used ≡ u → ((t : ℕ) → MovesHave (moves (from + b.size) t bs)) → MovesHave (moves from to (b ∷ bs))
      go true e ih = subst MovesHave (sym (moves_used from to b bs e)) (move_has from to b _ (a.0 e) (ih (to + b.size)))
      go false e ih = subst MovesHave (sym (moves_idle from to b bs e)) (ih to)

  moves_by_have : (n from to : ℕ) (bs : List Block) → BlocksHave bs → MovesHave (moves_by n from to bs)
  moves_by_have n from to [] a = tt
  moves_by_have n from to (b ∷ bs) a = go b.used refl (λ t. moves_by_have n (from + b.size) t bs a.1)
    where
      go : (u : Bool) → b.used ≡ u → ((t : ℕ) → MovesHave (moves_by n (from + b.size) t bs)) → MovesHave (moves_by n from to (b ∷ bs))
      go true e ih = subst MovesHave (sym (moves_by_used n b bs e from to)) (move_has from to b _ (a.0 e) (ih (to + b.size)))
      go false e ih = subst MovesHave (sym (moves_by_free n b bs e from to)) (ih (to + by.kept n b.size bs))

  -- also where there are none because nothing was done
  done_has : (n : ℕ) (d : Bool) (bs : List Block) → BlocksHave bs → MovesHave (if d then moves_by n 0 0 bs else [])
  done_has n true bs a = moves_by_have n 0 0 bs a
  done_has n false bs a = tt

-- ---- the moves that the closure is called with

-- room is made with moves, each of which the closure is called with, of ranges whose handles are kept
pub room_folds : {P : Type 0} (R : P → Move → P → Type 0) (want : ℕ) (v w : View) (c : Option RoomCost) (p q : P) → MakesRoom R want v p c w q
    → (xs : List Move) × FoldsTo R p xs q × MakesRoom Notes want v [] c w xs × ((hs : List (Option Handle)) → AreKept v hs → MovesHave hs xs)
room_folds R want v w None p q m = ([], sym m.1, (m.0, refl), λ hs a. tt)
room_folds R want v w (Some c) p q m = elim (cases_eq c.ranges 0) [
  | inl z ↦ ([], sym (m.0 z).1, (λ e. ((m.0 e).0, refl), λ l. absurd (omega (arith, z, l))), λ hs a. tt)
  | inr z ↦
      let t = m.1 (omega (arith, z)) in
      let ms = moves (units t.0.front) (units t.0.front) t.0.run in
      (ms, t.2, (λ e. absurd (z e), λ l. (t.0, t.1, notes_all [] ms)), λ hs a. moves_have hs _ _ t.0.run (run_has hs t.0.front t.0.run t.0.back v.blocks t.0.is a))
]

-- and so by steps
pub room_by_folds : {P : Type 0} (R : P → Move → P → Type 0) (n want short : ℕ) (v w : View) (c : Option RoomCost) (p q : P) → MakesRoomBy R n want short v p c w q
    → (xs : List Move) × FoldsTo R p xs q × MakesRoomBy Notes n want short v [] c w xs × ((hs : List (Option Handle)) → AreKept v hs → MovesHave hs xs)
room_by_folds R n want short v w None p q m = ([], sym m.1, (m.0, refl), λ hs a. tt)
room_by_folds R n want short v w (Some c) p q m = elim (cases_eq c.ranges 0) [
  | inl z ↦ ([], sym (m.0 z).1, (λ e. ((m.0 e).0, refl), λ l. absurd (omega (arith, z, l))), λ hs a. tt)
  | inr z ↦
      let t = m.1 (omega (arith, z)) in
      let ms = moves_by n (units t.0.front) (units t.0.front) t.0.run in
      (ms, t.2, (λ e. absurd (z e), λ l. (t.0, t.1, notes_all [] ms)), λ hs a. moves_by_have hs n _ _ t.0.run (run_has hs t.0.front t.0.run t.0.back v.blocks t.0.is a))
]

-- and so is a compaction within a budget
pub within_folds : {P : Type 0} (R : P → Move → P → Type 0) (n from u k : ℕ) (v w : View) (o : Option Progress) (p q : P) → CompactsWithin R n from u k v p o w q
    → (xs : List Move) × FoldsTo R p xs q × CompactsWithin Notes n from u k v [] o w xs × ((hs : List (Option Handle)) → AreKept v hs → MovesHave hs xs)
within_folds R n from u k v w None p q m = ([], sym m.1, (m.0, refl, m.2), λ hs a. tt)
within_folds R n from u k v w (Some o) p q (inl m) = ([], sym m.3, inl (m.0, m.1, m.2, refl), λ hs a. tt)
within_folds R n from u k v w (Some o) p q (inr m) =
    let run = m.0.first ∷ m.0.rest in
    let ms = moves_by n (units m.0.front) (units m.0.front) run in
    (ms, m.2, inr (m.0, m.1, notes_all [] ms), λ hs a. moves_by_have hs n _ _ run (run_has hs m.0.front run m.0.back v.blocks m.0.reached.is a))

-- what a call comes to, with the moves that the closure is called with, is so of an equal call
pub slid_as : {P : Type 0} (R : P → Move → P → Type 0) (c d : Call) (v w : View) (o : Slid) (p q : P) → c ≡ d
    → (xs : List Move) × FoldsTo R p xs q × IsSlid d v o w xs → (xs : List Move) × FoldsTo R p xs q × IsSlid c v o w xs
slid_as R c d v w o p q e t = subst (λ k. (xs : List Move) × FoldsTo R p xs q × IsSlid k v o w xs) (sym e) t

-- what follows from a fact that is long to write out
pub given : {A B : Type 0} → A → (A → B) → B
given a f = f a

-- ---- their numbers

-- the ranges that move have handles that are kept
pub slid_have : (c : Call) (v w : View) (o : Slid) (xs : List Move) (hs : List (Option Handle)) → IsSlid c v o w xs → AreKept v hs → MovesHave hs xs
slid_have call.Compact v w o xs hs t a = subst (MovesHave hs) (sym t.2) (moves_have hs 0 0 v.blocks a)
slid_have (call.CompactBy n) v w o xs hs t a = subst (MovesHave hs) (sym t.3) (done_has hs n t.0 v.blocks a)
slid_have (call.CompactWithin n from u k) v w o xs hs t a =
    let f = within_folds Notes n from u k v w t.0 [] xs t.1 in subst (MovesHave hs) (sym (noted f.0 [] xs f.1)) (f.3 hs a)
slid_have (call.MakeRoom n) v w o xs hs t a =
    let f = room_folds Notes (value (up n)) v w t.0 [] xs t.2 in subst (MovesHave hs) (sym (noted f.0 [] xs f.1)) (f.3 hs a)
slid_have (call.MakeRoomBy n align m) v w o xs hs t a =
    let f = room_by_folds Notes m (value (up (units_needed n align))) (names_short (blocks_needed align) v) v w t.0 [] xs t.2 in subst (MovesHave hs) (sym (noted f.0 [] xs f.1)) (f.3 hs a)
slid_have other v w o xs hs t a = absurd t

slides_have : (hs : List (Option Handle)) (ss : List (Handle × Moved)) → MovesHave hs (map named_move ss) → AllByRecursion (λ (s : Handle × Moved). HasNumber hs s.0.name) ss
slides_have hs [] a = tt
slides_have hs (s ∷ ss) a = (a.0, slides_have hs ss a.1)

-- each of a list, by its place
pub each_at : {A : Type 0} (P : A → Type 0) (xs : List A) → AllByRecursion P xs → All P xs
each_at P [] a i d l = absurd (omega (arith, l))
each_at P (x ∷ xs) a zero d l = a.0
each_at P (x ∷ xs) a (suc i) d l = each_at P xs a.1 i d (omega (arith, l))

-- moves with the numbers of their names
pub all_numbered : (hs : List (Option Handle)) (number : ℕ → ℕ) → ((k x : ℕ) → kept_name hs k ≡ Some x → number x ≡ k) → (ss : List (Handle × Moved))
    → AllByRecursion (λ (s : Handle × Moved). (k : ℕ) × (kept_name hs k ≡ Some s.0.name)) ss → AreNumbered hs (map named_move ss) (map (numbered_move number) ss)
all_numbered hs number each [] a = tt
all_numbered hs number each (s ∷ ss) a = (ap (kept_name hs) (each a.0.0 s.0.name a.0.1) ∙ a.0.1, refl, refl, refl, all_numbered hs number each ss a.1)

-- one more move of a loop over slides
pub one_more : (number : ℕ → ℕ) (ss : List (Handle × Moved)) (found left : List Moved) (i : ℕ) (d d' : Handle × Moved) (n : ℕ) → i < length ss
    → map move_view found ++ map (numbered_move number) (drop i ss) ≡ map (numbered_move number) ss
    → left ≡ found ++ record { number = n; from = (get_or ss i d).1.from; to = (get_or ss i d).1.to; size = (get_or ss i d).1.size } ∷ [] → n ≡ number (get_or ss i d').0.name
    → map move_view left ++ map (numbered_move number) (drop (i + 1) ss) ≡ map (numbered_move number) ss
one_more number ss found left i d d' n l e more is =
    let f = numbered_move number in
    let s = get_or ss i d in
    let m : Moved = record { number = n; from = s.1.from; to = s.1.to; size = s.1.size } in
    let rest : f s ∷ map f (drop (i + 1) ss) ≡ map f (drop i ss) = ap (λ k. f s ∷ map f (drop k ss)) (add-one i) ∙ ap (map f) (sym (drop-cons ss i d l)) in
    let front : map move_view left ≡ map move_view found ++ move_view m ∷ [] = ap (map move_view) more ∙ map-append move_view found (m ∷ []) in
    let named : n ≡ number s.0.name = is ∙ ap (λ (t : Handle × Moved). number t.0.name) (get_or_default ss i d' d l) in
    let same : move_view m ≡ f s = ap (λ (k : ℕ). record { number = k; from = s.1.from; to = s.1.to; size = s.1.size }) named in
    ap (λ k. k ++ map f (drop (i + 1) ss)) front ∙ append_assoc (map move_view found) (move_view m ∷ []) (map f (drop (i + 1) ss))
    ∙ ap (λ x. map move_view found ++ x ∷ map f (drop (i + 1) ss)) same ∙ ap (λ k. map move_view found ++ k) rest ∙ e

-- some moves with numbers, where each name that moves has one
numbered_some : (hs : List (Option Handle)) (xs : List Move) → AllByRecursion (λ (m : Move). (k : ℕ) × (kept_name hs k ≡ Some m.name)) xs → (ms : List Numbered) × AreNumbered hs xs ms
numbered_some hs [] a = ([], tt)
numbered_some hs (x ∷ xs) a = let r = numbered_some hs xs a.1 in (record { number = a.0.0; from = x.from; to = x.to; size = x.size } ∷ r.0, (a.0.1, refl, refl, refl, r.1))

-- ---- the step

-- what is so anyway is so where memory is refused
pub on_err : {A E P : Type 0} (r : Result A E) → P → OnErr r P
on_err (Ok a) p = tt
on_err (Err e) p = p

-- the step of a call that may slide ranges
pub slide_step : (c : Call) (v w : View) (hs left : List (Option Handle)) (r : Reply) → IsTrue (slides c) → TakesSlide c v hs w r → left ≡ hs → Takes c v hs w left r
slide_step call.Compact v w hs left r s t e = (t, e)
slide_step (call.CompactBy n) v w hs left r s t e = (t, e)
slide_step (call.CompactWithin n from u k) v w hs left r s t e = (t, e)
slide_step (call.MakeRoom n) v w hs left r s t e = (t, e)
slide_step (call.MakeRoomBy n align m) v w hs left r s t e = (t, e)
slide_step other v w hs left r s t e = absurd t.2

-- ranges were slid, and the reply is lost
pub slide_lost : (c : Call) (v w : View) (o : Slid) (hs left : List (Option Handle)) → AreKept v hs → IsTrue (slides c) → (xs : List Move) × IsSlid c v o w xs → left ≡ hs → IsLost c v hs w left
slide_lost c v w o hs left kept s t e =
    let ms = numbered_some hs t.0 (slid_have c v w o t.0 hs t.1 kept) in
    inr (s, slid_reply o ms.0, slide_step c v w hs left (slid_reply o ms.0) s (o, t.0, t.1, ms.0, ms.1, refl) e)

module _ (c : Call) (v w : View) (o : Slid) (hs : List (Option Handle)) (ss : List (Handle × Moved)) (kept : AreKept v hs) (t : IsSlid c v o w (map named_move ss)) where
  -- each range that moves has a number
  pub slide_numbers : AllByRecursion (λ (s : Handle × Moved). (k : ℕ) × (kept_name hs k ≡ Some s.0.name)) ss
  slide_numbers = slides_have hs ss (slid_have c v w o (map named_move ss) hs t kept)

  -- the moves that were collected, with these numbers
  pub slide_takes : (number : ℕ → ℕ) (ms : List Numbered) → ((k x : ℕ) → kept_name hs k ≡ Some x → number x ≡ k) → ms ≡ map (numbered_move number) ss → IsTrue (slides c) → Takes c v hs w hs (slid_reply o ms)
  slide_takes number ms each is s = slide_step c v w hs hs (slid_reply o ms) s (o, map named_move ss, t, _, all_numbered hs number each ss slide_numbers, ap (slid_reply o) is) refl

-- each range that moves has a live name then
pub slides_live : (hs : List (Option Handle)) (P : ℕ → Type 0) → ((k x : ℕ) → kept_name hs k ≡ Some x → P x)
    → (ss : List (Handle × Moved)) → AllByRecursion (λ (s : Handle × Moved). (k : ℕ) × (kept_name hs k ≡ Some s.0.name)) ss → All (λ (s : Handle × Moved). P s.0.name) ss
slides_live hs P each ss a = each_at (λ (s : Handle × Moved). P s.0.name) ss (also ss a)
  where
    also : (ss : List (Handle × Moved)) → AllByRecursion (λ (s : Handle × Moved). (k : ℕ) × (kept_name hs k ≡ Some s.0.name)) ss → AllByRecursion (λ (s : Handle × Moved). P s.0.name) ss
    also [] a = tt
    also (s ∷ ss) a = (each a.0.0 s.0.name a.0.1, also ss a.1)
