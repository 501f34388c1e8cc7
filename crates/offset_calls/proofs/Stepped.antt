-- Sliding by whole steps: what a run leaves agrees with the plain machine, and the moves are the same; and a compaction
-- by whole steps.
use Rattle.offset_calls.proofs.Common.{◌≡◌, ◌≢◌, ℕ, zero, suc, ◌+◌, ◌-◌, ◌<◌, ◌≤◌, Bool, true, false, not, ◌&&◌, List, [], ◌∷◌, ◌++◌, map, length, Option, Some, None, nat_eq, nat_le, if◌then◌else◌, refl, sym}
use Rattle.offset_calls.proofs.Common.{◌⊎◌, units, ap, ap₂, subst, subst₂, ◌∙◌, inl, inr, arith, le-leb, lt-leb, leb-false, cases_lt, true≢false, false≢true, and_parts, and_right, append-nil, length-append, length-map, map-append}
use Rattle.offset_calls.proofs.Common.{option_map, AllByRecursion, Block, View, Handle, replace, IsWellFormed, SameSpace, kept_name, Tag, Live, Free, State, is_free, is_short_of}
use Rattle.offset_calls.proofs.Common.{free_part, stamp_of_call, stamp_of_padding, Move, number, AreNumbered, Reply, Answer, Compacted, Outcome, replies_only}
use Rattle.offset_allocator.specs.{View.free_block, View.ends_used, View.AreCoalesced, Relations.SameState}
use Rattle.offset_allocator.specs.Moving.BySteps.{CanFollow, CompactsBy, SlidesBy, run_by}
use Rattle.offset_allocator.specs.Moving.BySteps as by
use Rattle.offset_allocator.specs.Moving.Compacting as named_moves
use Rattle.offset_allocator.specs.View as named
use Rattle.offset_allocator.proofs.{Tallies.hit_cases, Views.ViewApart.left_false}
use Rattle.offset_allocator.proofs.Moving.Stepped.{IsWhole, stepped_apart, none_whole, whole_is}
use Rattle.offset_allocator.proofs.Moving.DecidedSteps.{whole_there}
use Rattle.offset_allocator.specs.Chain.{first_or}
use Rattle.offset_calls.proofs.Common.{ne_eqb}
use Rattle.std.specs.{Option.option_or}
use Rattle.std.proofs.lemmas.Bool.{and_cases, cond_both}
use Rattle.offset_script.proofs.Agreed.{agrees_replaced, agrees_but, agrees_quiet, has_room, name_replaced, room_for}
use Rattle.offset_script.specs.Agreement.{Label, by_name, by_tag, name_of, HasBlocksOf, IsAtState}
use Rattle.offset_script.proofs.Ends.{apart_tagged, name_append, or_none, total_units}
use Rattle.offset_script.proofs.Labels.{names, tags, map_three, AreRising}
use Rattle.offset_script.proofs.Lists.{AreApart, apart_append, apart_parts, count, count-append, count_free_part, ends_free, hit, starts_free}
use Rattle.offset_script.proofs.{Members.IsIn, Members.in_left, Members.in_right, Members.map_parts, Members.map_first, Well.IsWell, Well.IsOld, Well.not_there, Well.well_quiet, Well.free_part_is, Tests.same_some}
use Rattle.offset_calls.specs.Room.{Split, from_first, after_first}
use Rattle.offset_calls.specs.Stepped.{kept, stepped, given_up, used_up, slid_by, slid_run, first_run, to_the_end}
use Rattle.offset_calls.specs.Calls.{moves_by, moves_of_run, slides_run, compact_by}
use Rattle.offset_calls.specs.{Slides.done, Slides.slid_reply, Steps.TakesSlide}
use Rattle.offset_calls.specs.declared.calls.Call.TheVariants as call
use Rattle.offset_calls.proofs.Compacted.{one_number, same_move}
use Rattle.offset_script.specs.Machine as machine

-- ---- labels

pub kept_same : (n m : ℕ) (ls : List Label) → by.kept n m (names ls) ≡ kept n m (tags ls)
kept_same n m [] = refl
kept_same n m (l ∷ ls) = refl

-- the label of what a free block keeps
abbrev part_label : ℕ → ℕ → ℕ → List Label
part_label x zero s = []
part_label x (suc m) s = (record { name = x; size = suc m; tag = Free s }) ∷ []

part_names : (x m s : ℕ) → names (part_label x m s) ≡ named.free_part x m
part_names x zero s = refl
part_names x (suc m) s = refl

part_tags : (x m s : ℕ) → tags (part_label x m s) ≡ free_part m s
part_tags x zero s = refl
part_tags x (suc m) s = refl

part_name_of : (k x m s : ℕ) → name_of k (part_label x m s) ≡ None
part_name_of k x zero s = refl
part_name_of k x (suc m) s = refl

-- the labels of what is left
abbrev left_label : ℕ → ℕ → Label → List Label → List Label
left_label n s l ls = if is_free l.tag then part_label l.name (kept n l.size (tags ls)) s else l ∷ []

abbrev pub stepped_labels : ℕ → ℕ → List Label → List Label
stepped_labels n s [] = []
stepped_labels n s (l ∷ ls) = left_label n s l ls ++ stepped_labels n (s + 1) ls

stepped_names : (n s : ℕ) (ls : List Label) → names (stepped_labels n s ls) ≡ by.stepped n (names ls)
stepped_names n s [] = refl
stepped_names n s (l ∷ ls) = map-append by_name (left_label n s l ls) (stepped_labels n (s + 1) ls) ∙ ap₂ (λ a b. a ++ b) (go (is_free l.tag)) (stepped_names n (s + 1) ls)
  where
    go : (t : Bool) → names (if t then part_label l.name (kept n l.size (tags ls)) s else l ∷ []) ≡ (if not t then by_name l ∷ [] else named.free_part l.name (by.kept n l.size (names ls)))
    go true = part_names l.name _ s ∙ ap (named.free_part l.name) (sym (kept_same n l.size ls))
    go false = refl

stepped_tags : (n s : ℕ) (ls : List Label) → tags (stepped_labels n s ls) ≡ stepped n s (tags ls)
stepped_tags n s [] = refl
stepped_tags n s (l ∷ ls) = map-append by_tag (left_label n s l ls) (stepped_labels n (s + 1) ls) ∙ ap₂ (λ a b. a ++ b) (go (is_free l.tag)) (stepped_tags n (s + 1) ls)
  where
    go : (t : Bool) → tags (if t then part_label l.name (kept n l.size (tags ls)) s else l ∷ []) ≡ (if t then free_part (kept n l.size (tags ls)) s else by_tag l ∷ [])
    go true = part_tags l.name _ s
    go false = refl

pub given_same : (n : ℕ) (ls : List Label) → by.given_up n (names ls) ≡ given_up n (tags ls)
given_same n [] = refl
given_same n (l ∷ ls) = ap₂ (λ a b. a + b) (go (is_free l.tag)) (given_same n ls)
  where
    go : (t : Bool) → (if not t then 0 else l.size - by.kept n l.size (names ls)) ≡ (if t then l.size - kept n l.size (tags ls) else 0)
    go true = ap (λ k. l.size - k) (kept_same n l.size ls)
    go false = refl

no_number : (k : ℕ) (t : Tag) → is_free t ≡ true → machine.has_number k t ≡ false
no_number k (Live j) e = absurd (false≢true e)
no_number k (Free s) e = refl

stepped_name_of : (k n s : ℕ) (ls : List Label) → name_of k (stepped_labels n s ls) ≡ name_of k ls
stepped_name_of k n s [] = refl
stepped_name_of k n s (l ∷ ls) = go (is_free l.tag) refl (stepped_name_of k n (s + 1) ls)
  where
    go : (t : Bool) → is_free l.tag ≡ t → name_of k (stepped_labels n (s + 1) ls) ≡ name_of k ls
        → name_of k ((if t then part_label l.name (kept n l.size (tags ls)) s else l ∷ []) ++ stepped_labels n (s + 1) ls) ≡ name_of k (l ∷ ls)
    go true e ih = name_append k (part_label l.name (kept n l.size (tags ls)) s) (stepped_labels n (s + 1) ls)
        ∙ ap (λ o. option_or o (name_of k (stepped_labels n (s + 1) ls))) (part_name_of k l.name _ s) ∙ ih
        ∙ sym (ap (λ b. if b then Some l.name else name_of k ls) (no_number k l.tag e))
    go false e ih = ap (λ o. if machine.has_number k l.tag then Some l.name else o) ih

-- their stamps rise
rises_stepped : (t n s : ℕ) (ls : List Label) (m : Label) → t ≤ s → s + length ls ≤ machine.stamp m.tag → AreRising t (stepped_labels n s ls ++ m ∷ [])
rises_stepped t n s [] m l e = (λ f. tt, λ f. (omega (arith, l, e), tt))
rises_stepped t n s (k ∷ ls) m l e = go (is_free k.tag) refl (λ u h. rises_stepped u n (s + 1) ls m h (omega (arith, e)))
  where
    part : (p : ℕ) → ((u : ℕ) → u ≤ s + 1 → AreRising u (stepped_labels n (s + 1) ls ++ m ∷ [])) → AreRising t ((part_label k.name p s ++ stepped_labels n (s + 1) ls) ++ m ∷ [])
    part zero ih = ih t (omega (arith, l))
    part (suc p) ih = (λ g. absurd (true≢false g), λ g. (l, ih (s + 1) (omega arith)))

    go : (b : Bool) → is_free k.tag ≡ b → ((u : ℕ) → u ≤ s + 1 → AreRising u (stepped_labels n (s + 1) ls ++ m ∷ []))
        → AreRising t (((if b then part_label k.name (kept n k.size (tags ls)) s else k ∷ []) ++ stepped_labels n (s + 1) ls) ++ m ∷ [])
    go true f ih = part (kept n k.size (tags ls)) ih
    go false f ih = (λ g. ih t (omega (arith, l)), λ g. absurd (true≢false (sym g ∙ f)))

pub same_end : (ls : List Label) → machine.ends_live (tags ls) ≡ ends_used (names ls)
same_end [] = refl
same_end (l ∷ []) = refl
same_end (l ∷ m ∷ ls) = same_end (m ∷ ls)

-- ---- moves

abbrev named_step : ℕ → ℕ → ℕ → Label → List Label → Bool → Bool → List named_moves.Move
named_step n from to l ls u b = if u then (if b then [] else record { name = l.name; from = from; to = to; size = l.size } ∷ [])
    ++ by.moves_by n (from + l.size) (to + l.size) (names ls) else by.moves_by n (from + l.size) (to + by.kept n l.size (names ls)) (names ls)

abbrev plain_step : ℕ → ℕ → ℕ → Label → List Label → Tag → Bool → List Move
plain_step n from to l ls t b = if is_free t then moves_by n (from + l.size) (to + kept n l.size (tags ls)) (tags ls) else (if b then [] else record { number = number t; from = from; to = to; size = l.size } ∷ [])
    ++ moves_by n (from + l.size) (to + l.size) (tags ls)

-- the moves are those of the plain machine, where the name of each label has one number
moves_agree : (n : ℕ) (handles : List (Option Handle)) (from to : ℕ) (ls : List Label) (ms : List Move)
    → ((l : Label) → IsIn l ls → (k : ℕ) → l.tag ≡ Live k → (j : ℕ) → kept_name handles j ≡ Some l.name → j ≡ k)
    → AreNumbered handles (by.moves_by n from to (names ls)) ms → ms ≡ moves_by n from to (tags ls)
moves_agree n handles from to [] [] h a = refl
moves_agree n handles from to [] (m ∷ ms) h a = absurd a
moves_agree n handles from to (l ∷ ls) ms h a = go l.tag refl (nat_eq from to) refl ms a (λ t r. moves_agree n handles (from + l.size) t ls r (λ x i. h x (inr i)))
  where
    first : (k : ℕ) → l.tag ≡ Live k → (ms : List Move)
        → ((r : List Move) → AreNumbered handles (by.moves_by n (from + l.size) (to + l.size) (names ls)) r → r ≡ moves_by n (from + l.size) (to + l.size) (tags ls))
        → AreNumbered handles (record { name = l.name; from = from; to = to; size = l.size } ∷ by.moves_by n (from + l.size) (to + l.size) (names ls)) ms
        → ms ≡ record { number = k; from = from; to = to; size = l.size } ∷ moves_by n (from + l.size) (to + l.size) (tags ls)
    first k t [] ih a = absurd a
    first k t (m ∷ ms) ih a = ap₂ (λ (x : Move) y. x ∷ y) (same_move m k from to l.size (h l (inl refl) k t m.number a.0) a.1 a.2 a.3) (ih ms a.4)

    go : (t : Tag) → l.tag ≡ t → (b : Bool) → nat_eq from to ≡ b → (ms : List Move) → AreNumbered handles (named_step n from to l ls (not (is_free l.tag)) (nat_eq from to)) ms
        → ((t : ℕ) (r : List Move) → AreNumbered handles (by.moves_by n (from + l.size) t (names ls)) r → r ≡ moves_by n (from + l.size) t (tags ls))
        → ms ≡ plain_step n from to l ls l.tag (nat_eq from to)
    go (Free s) t b e ms a ih = ih (to + kept n l.size (tags ls)) ms (subst (λ k. AreNumbered handles (by.moves_by n (from + l.size) (to + k) (names ls)) ms) (kept_same n l.size ls)
        (subst₂ (λ y b. AreNumbered handles (named_step n from to l ls (not (is_free y)) b) ms) t e a)) ∙ sym (ap₂ (plain_step n from to l ls) t e)
    go (Live k) t true e ms a ih = ih (to + l.size) ms (subst₂ (λ y b. AreNumbered handles (named_step n from to l ls (not (is_free y)) b) ms) t e a) ∙ sym (ap₂ (plain_step n from to l ls) t e)
    go (Live k) t false e ms a ih = first k t ms (ih (to + l.size)) (subst₂ (λ y b. AreNumbered handles (named_step n from to l ls (not (is_free y)) b) ms) t e a)
        ∙ sym (ap₂ (plain_step n from to l ls) t e)

none_numbered : (handles : List (Option Handle)) (xs : List named_moves.Move) (ms : List Move) → xs ≡ [] → AreNumbered handles xs ms → ms ≡ []
none_numbered handles [] [] e a = refl
none_numbered handles [] (m ∷ ms) e a = absurd a
none_numbered handles (x ∷ xs) ms e a = absurd (cc)

-- ---- what a run leaves

-- a run of the allocator has slid by steps of n, and what it gave up is one free block after it
pub record IsSlidRun (n : ℕ) (v u : View) (front run back : List Block) : Type 0 where
  pub is : v.blocks ≡ front ++ (run ++ back)
  pub name : ℕ
  pub view : SameSpace (replace v front run (by.stepped n run ++ free_block name (by.given_up n run) ∷ []) back) u

module _ (v : View) (hs : List (Option Handle)) (s : State) (w : IsWellFormed v) (ws : IsWell s) (g : HasBlocksOf v (kept_name hs) s) (n : ℕ) (u : View) (w' : IsWellFormed u)
    (front run back : List Block) (h : IsSlidRun n v u front run back) (f r b : List Label) (is : g.labels ≡ f ++ (r ++ b)) (front_is : names f ≡ front) (run_is : names r ≡ run) (back_is : names b ≡ back) where
  abbrev run_split : Split
  run_split = record { front = tags f; run = tags r; back = tags b }

  abbrev last : Label
  last = record { name = h.name; size = given_up n (tags r); tag = Free (stamp_of_call s + length (tags r)) }

  abbrev new : List Label
  new = stepped_labels n (stamp_of_call s) r ++ last ∷ []

  new_names : names new ≡ by.stepped n run ++ free_block h.name (by.given_up n run) ∷ []
  new_names = map-append by_name (stepped_labels n (stamp_of_call s) r) (last ∷ []) ∙ ap₂ (λ l (m : ℕ). l ++ free_block h.name m ∷ []) (stepped_names n (stamp_of_call s) r) (sym (given_same n r))
      ∙ ap (λ bs. by.stepped n bs ++ free_block h.name (by.given_up n bs) ∷ []) run_is

  new_tags : tags new ≡ slid_by n (stamp_of_call s) (tags r)
  new_tags = map-append by_tag (stepped_labels n (stamp_of_call s) r) (last ∷ []) ∙ ap (λ l. l ++ by_tag last ∷ []) (stepped_tags n (stamp_of_call s) r)

  same : SameSpace (replace v (names f) (names r) (names new) (names b)) u
  same = rw (front_is, run_is, new_names, back_is) h.view

  same_names : (j : ℕ) → name_of j r ≡ name_of j new
  same_names j = sym (name_append j (stepped_labels n (stamp_of_call s) r) (last ∷ []) ∙ or_none _ ∙ stepped_name_of j n (stamp_of_call s) r)

  pub run_agrees : HasBlocksOf u (kept_name hs) (slid_run n s run_split)
  run_agrees = agrees_replaced v (kept_name hs) s w ws g u w' v.size f r new b is same (slid_run n s run_split) refl
      (ap (λ l. tags f ++ (l ++ tags b)) (sym new_tags) ∙ sym (map_three by_tag f new b))
      (rises_stepped (stamp_of_padding s) n (stamp_of_call s) r last (omega arith) (omega (arith, length-map r by_tag))) (kept_name hs)
      (λ j. g.handles j ∙ ap (name_of j) is ∙ name_replaced j f r new b (same_names j))

  at : units front ≡ machine.total (tags f)
  at = sym (total_units f ∙ ap units front_is)

  in_run : (l : Label) → IsIn l r → IsIn l g.labels
  in_run l i = subst (IsIn l) (sym is) (in_right l f (r ++ b) (in_left l r b i))

  pub run_moves : (ms : List Move) → AreNumbered hs (by.moves_by n (units front) (units front) run) ms → ms ≡ moves_of_run n run_split
  run_moves ms a = moves_agree n hs (machine.total (tags f)) (machine.total (tags f)) r ms (λ l i k t j e. one_number v hs s w ws g l (in_run l i) k t j e) (rw (← at, run_is) a)

-- ---- every state stays well-formed

stepped_few : (n s : ℕ) (bs : List machine.Block) → length (stepped n s bs) ≤ length bs
stepped_few n s [] = omega arith
stepped_few n s (b ∷ bs) = go (is_free b.tag) (stepped_few n (s + 1) bs)
  where
    go : (t : Bool) → length (stepped n (s + 1) bs) ≤ length bs → length ((if t then free_part (kept n b.size bs) s else b ∷ []) ++ stepped n (s + 1) bs) ≤ suc (length bs)
    go true l = omega (arith, l, length-append (free_part (kept n b.size bs) s) (stepped n (s + 1) bs), (free_part_is (kept n b.size bs) s).3)
    go false l = omega (arith, l)

-- each block stays, or is used up
stepped_spent : (n s : ℕ) (bs : List machine.Block) → length (stepped n s bs) + used_up n bs ≤ length bs
stepped_spent n s [] = omega arith
stepped_spent n s (b ∷ bs) = go (is_free b.tag) (kept n b.size bs) (stepped_spent n (s + 1) bs)
  where
    go : (t : Bool) (m : ℕ) → length (stepped n (s + 1) bs) + used_up n bs ≤ length bs
        → length ((if t then free_part m s else b ∷ []) ++ stepped n (s + 1) bs) + ((if t && nat_eq m 0 then 1 else 0) + used_up n bs) ≤ suc (length bs)
    go true zero l = omega (arith, l)
    go true (suc m) l = omega (arith, l, ap {B = ℕ} (λ (x : Bool). if x then 1 else 0) (ne_eqb (suc m) 0 (λ q. absurd (omega (arith, q)))))
    go false m l = omega (arith, l)

-- a last block that is free is used up
pub spent_end : (n : ℕ) (bs : List machine.Block) → ends_free bs ≡ true → 1 ≤ used_up n bs
spent_end n [] e = absurd (false≢true e)
spent_end n (b ∷ []) e = subst (λ (t : Bool). 1 ≤ (if t && true then 1 else 0) + 0) (sym e) (omega arith)
spent_end n (b ∷ c ∷ bs) e = let ih = spent_end n (c ∷ bs) e in omega (arith, ih)

-- neighbours
not_not : (t : Bool) → t ≡ not (not t)
not_not true = refl
not_not false = refl

apart_named : (ls : List Label) → AreApart (tags ls) → AreCoalesced (names ls)
apart_named [] a = tt
apart_named (l ∷ []) a = (subst (λ x. (x && false) ≡ false) (not_not (is_free l.tag)) a.0, tt)
apart_named (l ∷ m ∷ ls) a = (subst₂ (λ x y. (x && y) ≡ false) (not_not (is_free l.tag)) (not_not (is_free m.tag)) a.0, apart_named (m ∷ ls) a.1)

abbrev with_names : List machine.Block → List Label
with_names bs = map (λ (b : machine.Block). let l : Label = record { name = 0; size = b.size; tag = b.tag } in l) bs

tags_with_names : (bs : List machine.Block) → tags (with_names bs) ≡ bs
tags_with_names [] = refl
tags_with_names (b ∷ bs) = ap (λ l. b ∷ l) (tags_with_names bs)

slid_apart : (n s : ℕ) (bs : List machine.Block) → AreApart bs → AreApart (slid_by n s bs)
slid_apart n s bs a =
    let ls = with_names bs in
    let last : Label = record { name = 0; size = given_up n bs; tag = Free (s + length bs) } in
    let named_apart : AreCoalesced (names (stepped_labels n s ls ++ last ∷ [])) =
    subst AreCoalesced (sym (map-append by_name (stepped_labels n s ls) (last ∷ []) ∙ ap (λ l. l ++ by_name last ∷ []) (stepped_names n s ls)))
    (stepped_apart n (names ls) (by_name last) [] (apart_named ls (subst AreApart (sym (tags_with_names bs)) a)) (refl, tt)) in
    subst AreApart (map-append by_tag (stepped_labels n s ls) (last ∷ []) ∙ ap (λ l. l ++ by_tag last ∷ []) (stepped_tags n s ls ∙ ap (stepped n s) (tags_with_names bs)))
    (apart_tagged (stepped_labels n s ls ++ last ∷ []) named_apart)

-- tags
count_live_stepped : (k n s : ℕ) (bs : List machine.Block) → count (Live k) (stepped n s bs) ≤ count (Live k) bs
count_live_stepped k n s [] = omega arith
count_live_stepped k n s (b ∷ bs) = go (is_free b.tag) (count_live_stepped k n (s + 1) bs)
  where
    go : (t : Bool) → count (Live k) (stepped n (s + 1) bs) ≤ count (Live k) bs
        → count (Live k) ((if t then free_part (kept n b.size bs) s else b ∷ []) ++ stepped n (s + 1) bs) ≤ hit (Live k) b.tag + count (Live k) bs
    go true l = omega (arith, l, count-append (Live k) (free_part (kept n b.size bs) s) (stepped n (s + 1) bs), count_free_part (Live k) (kept n b.size bs) s)
    go false l = omega (arith, l)

no_stamp : (x : ℕ) (t : Tag) → is_free t ≡ false → hit (Free x) t ≡ 0
no_stamp x (Live k) e = refl
no_stamp x (Free s) e = absurd (true≢false e)

-- each stamp is there once, and in its order
abbrev IsOnce : ℕ → ℕ → ℕ → ℕ → Type 0
IsOnce x s l m = (m ≤ 1) × (1 ≤ m → (s ≤ x) × (x < s + l))

count_free_stepped : (x n s : ℕ) (bs : List machine.Block) → IsOnce x s (length bs) (count (Free x) (stepped n s bs))
count_free_stepped x n s [] = (omega arith, λ l. absurd (omega (arith, l)))
count_free_stepped x n s (b ∷ bs) = go (is_free b.tag) refl (count_free_stepped x n (s + 1) bs)
  where
    go : (t : Bool) → is_free b.tag ≡ t → IsOnce x (s + 1) (length bs) (count (Free x) (stepped n (s + 1) bs))
        → IsOnce x s (suc (length bs)) (count (Free x) ((if t then free_part (kept n b.size bs) s else b ∷ []) ++ stepped n (s + 1) bs))
    go true e ih =
        let sum = count-append (Free x) (free_part (kept n b.size bs) s) (stepped n (s + 1) bs) in
        let part = count_free_part (Free x) (kept n b.size bs) s in
        elim (hit_cases x s) [
          | inl h ↦ elim (cases_lt 0 (count (Free x) (stepped n (s + 1) bs))) [
            | inl some ↦ let q = (ih.1 some).0 in absurd (omega (arith, q, h.0))
            | inr none ↦ (omega (arith, sum, part, none, h.1), λ l. (omega (arith, h.0), omega (arith, h.0)))
          ]
          | inr h ↦ (omega (arith, sum, part, ih.0, h.1), λ l. let q = ih.1 (omega (arith, l, sum, part, h.1)) in (omega (arith, q.0), omega (arith, q.1)))
        ]
    go false e ih =
        let none = no_stamp x b.tag e in
        (omega (arith, none, ih.0), λ l. let q = ih.1 (omega (arith, l, none)) in (omega (arith, q.0), omega (arith, q.1)))

-- what slides has no tag twice
module _ (s : State) (w : IsWell s) (left run : List machine.Block) (n : ℕ) (others : Tag → ℕ) (old_count : (t : Tag) → count t s.blocks ≡ others t + count t run)
    (new_count : (t : Tag) → count t left ≡ others t + (count t (stepped n (stamp_of_call s) run) + hit t (Free (stamp_of_call s + length run)))) where
  abbrev fresh : ℕ → ℕ
  fresh x = count (Free x) (stepped n (stamp_of_call s) run) + hit (Free x) (Free (stamp_of_call s + length run))

  new_tag : (x : ℕ) → IsOnce x (stamp_of_call s) (length run + 1) (fresh x)
  new_tag x =
      let c = count_free_stepped x n (stamp_of_call s) run in
      elim (hit_cases x (stamp_of_call s + length run)) [
        | inl h ↦ elim (cases_lt 0 (count (Free x) (stepped n (stamp_of_call s) run))) [
          | inl some ↦ let q = (c.1 some).1 in absurd (omega (arith, q, h.0))
          | inr none ↦ (omega (arith, none, h.1), λ l. (omega (arith, h.0), omega (arith, h.0)))
        ]
        | inr h ↦ (omega (arith, c.0, h.1), λ l. let q = c.1 (omega (arith, l, h.1)) in (q.0, omega (arith, q.1)))
      ]

  once_left : (t : Tag) → count t left ≤ 1
  once_left (Live k) = omega (arith, old_count (Live k), new_count (Live k), count_live_stepped k n (stamp_of_call s) run, w.once (Live k))
  once_left (Free x) = elim (cases_lt x (stamp_of_padding s)) [
    | inl low ↦ elim (cases_lt 0 (fresh x)) [
      | inl some ↦ let q = ((new_tag x).1 some).0 in absurd (omega (arith, q, low))
      | inr none ↦ omega (arith, none, old_count (Free x), new_count (Free x), w.once (Free x))
    ]
    | inr high ↦ let none = not_there s w (Free x) (λ o. omega (arith, o, high)) in let few = (new_tag x).0 in omega (arith, none, few, old_count (Free x), new_count (Free x))
  ]

  old_left : (t : Tag) → 1 ≤ count t left → IsOld (record s { calls = s.calls + length run + 1; blocks = left }) t
  old_left (Live k) l = w.old (Live k) (omega (arith, l, old_count (Live k), new_count (Live k), count_live_stepped k n (stamp_of_call s) run))
  old_left (Free x) l = elim (cases_lt 0 (fresh x)) [
    | inl some ↦ let q = ((new_tag x).1 some).1 in omega (arith, q)
    | inr none ↦ let q = w.old (Free x) (omega (arith, l, none, old_count (Free x), new_count (Free x))) in omega (arith, q)
  ]

starts_append : (xs ys : List machine.Block) → starts_free xs ≡ true → starts_free (xs ++ ys) ≡ true
starts_append [] ys e = absurd (false≢true e)
starts_append (x ∷ xs) ys e = e

pub well_slid : (s : State) → IsWell s → (n : ℕ) (p : Split) → s.blocks ≡ p.front ++ (p.run ++ p.back) → starts_free p.run ≡ true → starts_free p.back ≡ false
    → (1 ≤ used_up n p.run) ⊎ (is_short_of 1 s ≡ false) → IsWell (slid_run n s p)
well_slid s w n p is begins live fits =
    let run = p.run in
    let last : machine.Block = machine.block (given_up n run) (Free (stamp_of_call s + length run)) in
    let steps = stepped n (stamp_of_call s) run in
    let inner = slid_by n (stamp_of_call s) run ++ p.back in
    let left = p.front ++ inner in
    let others : Tag → ℕ = λ t. count t p.front + count t p.back in
    let old_length : length s.blocks ≡ length p.front + (length run + length p.back) =
    ap (λ (l : List machine.Block). length l) is ∙ length-append p.front (run ++ p.back) ∙ ap (λ m. length p.front + m) (length-append run p.back) in
    let new_length : length left ≡ length p.front + ((length steps + 1) + length p.back) =
    length-append p.front inner ∙ ap (λ m. length p.front + m) (length-append (slid_by n (stamp_of_call s) run) p.back ∙ ap (λ m. m + length p.back) (length-append steps (last ∷ []))) in
    let old_count : (t : Tag) → count t s.blocks ≡ others t + count t run =
    λ t. omega (arith, ap (count t) is, count-append t p.front (run ++ p.back), count-append t run p.back) in
    let new_count : (t : Tag) → count t left ≡ others t + (count t steps + hit t last.tag) =
    λ t. omega (arith, count-append t p.front inner, count-append t (slid_by n (stamp_of_call s) run) p.back, count-append t steps (last ∷ [])) in
    let parts = apart_parts p.front (run ++ p.back) (subst AreApart is w.apart) in
    let rest = apart_parts run p.back parts.1 in
    let front_live : ends_free p.front ≡ false = left_false (ends_free p.front) (starts_free (run ++ p.back)) parts.2 (starts_append run p.back begins) in
    let apart_inner = apart_append (slid_by n (stamp_of_call s) run) p.back (slid_apart n (stamp_of_call s) run rest.0) rest.1 (and_right (ends_free (slid_by n (stamp_of_call s) run)) (starts_free p.back) live) in
    let few = stepped_few n (stamp_of_call s) run in
    let room : length left + 1 ≤ s.limit = elim fits [
      | inl some ↦ let less = stepped_spent n (stamp_of_call s) run in omega (arith, new_length, old_length, less, some, w.room)
      | inr spare ↦ omega (arith, new_length, old_length, few, leb-false s.limit (length s.blocks + 1) spare)
    ] in
    record {
      some = omega (arith, new_length);
      apart = apart_append p.front inner parts.0 apart_inner (ap (λ x. x && starts_free inner) front_live);
      once = once_left s w left run n others old_count new_count;
      old = old_left s w left run n others old_count new_count;
      room = room;
    }

-- a run slides, or is refused
pub well_slides : (s : State) → IsWell s → (n : ℕ) (r : Reply) (p : Split) → s.blocks ≡ p.front ++ (p.run ++ p.back) → starts_free p.run ≡ true → starts_free p.back ≡ false
    → IsWell (slides_run n s r p).state
well_slides s w n r p is begins live = cond_both (nat_eq (used_up n p.run) 0 && is_short_of 1 s) _ _ (λ (o : Outcome). IsWell o.state) (λ z. well_quiet s w machine.Gone)
    (λ z. well_slid s w n p is begins live (fits z))
  where
    some : (m : ℕ) → nat_eq m 0 ≡ false → 1 ≤ m
    some zero e = absurd (true≢false e)
    some (suc m) e = omega arith

    fits : (nat_eq (used_up n p.run) 0 && is_short_of 1 s) ≡ false → (1 ≤ used_up n p.run) ⊎ (is_short_of 1 s ≡ false)
    fits z = elim (and_cases (nat_eq (used_up n p.run) 0) (is_short_of 1 s) z) [ inl spent ↦ inl (some (used_up n p.run) spent) | inr spare ↦ inr spare ]

-- ---- the first run

-- how far a run goes from the start of a list: P holds of what is after it
pub record IsReach (P : List machine.Block → Type 0) (bs : List machine.Block) (p : Split) : Type 0 where
  pub front : p.front ≡ []
  pub is : bs ≡ p.run ++ p.back
  pub back : P p.back

-- a run in a list, which begins with a free block; P holds of what is after it
pub record IsRunIn (P : List machine.Block → Type 0) (bs : List machine.Block) (p : Split) : Type 0 where
  pub is : bs ≡ p.front ++ (p.run ++ p.back)
  pub begins : starts_free p.run ≡ true
  pub back : P p.back

some_not_nil : {A : Type 0} (x : A) (xs : List A) → (x ∷ xs) ≢ []
some_not_nil x xs e = absurd (cc)

pub run_here : (reach : List machine.Block → Split) (n from o : ℕ) (b : machine.Block) (bs : List machine.Block) → bs ≢ [] → (t : Bool)
    → (is_free b.tag && (nat_le n b.size && nat_le from (o + b.size))) ≡ t
    → first_run reach n from o (b ∷ bs) ≡ (if t then Some (from_first b (reach bs)) else option_map (after_first b) (first_run reach n from (o + b.size) bs))
run_here reach n from o b [] some t e = absurd (some refl)
run_here reach n from o b (c ∷ bs) some t e = ap (λ (x : Bool). if x then Some (from_first b (reach (c ∷ bs))) else option_map (after_first b) (first_run reach n from (o + b.size) (c ∷ bs))) e

pub first_run_in : (P : List machine.Block → Type 0) (reach : List machine.Block → Split) → ((bs : List machine.Block) → IsReach P bs (reach bs)) → (n from o : ℕ) (bs : List machine.Block) (p : Split)
    → first_run reach n from o bs ≡ Some p → IsRunIn P bs p
first_run_in P reach reached n from o [] p e = absurd (cc)
first_run_in P reach reached n from o (b ∷ []) p e = absurd (cc)
first_run_in P reach reached n from o (b ∷ c ∷ bs) p e =
    go (is_free b.tag && (nat_le n b.size && nat_le from (o + b.size))) refl (first_run reach n from (o + b.size) (c ∷ bs)) refl (λ q f. first_run_in P reach reached n from (o + b.size) (c ∷ bs) q f)
  where
    go : (t : Bool) → (is_free b.tag && (nat_le n b.size && nat_le from (o + b.size))) ≡ t → (x : Option Split) → first_run reach n from (o + b.size) (c ∷ bs) ≡ x
        → ((q : Split) → first_run reach n from (o + b.size) (c ∷ bs) ≡ Some q → IsRunIn P (c ∷ bs) q) → IsRunIn P (b ∷ c ∷ bs) p
    go true t x f ih =
        let same : Some (from_first b (reach (c ∷ bs))) ≡ Some p = sym (run_here reach n from o b (c ∷ bs) (some_not_nil c bs) true t) ∙ e in
        let k = reached (c ∷ bs) in
        subst (IsRunIn P (b ∷ c ∷ bs)) (same_some _ _ same) (record {
          is = ap (λ l. b ∷ l) k.is ∙ sym (ap (λ l. l ++ (b ∷ ((reach (c ∷ bs)).run ++ (reach (c ∷ bs)).back))) k.front);
          begins = (and_parts (is_free b.tag) _ t).0;
          back = k.back;
        })
    go false t None f ih =
        let none : None ≡ Some p = sym (run_here reach n from o b (c ∷ bs) (some_not_nil c bs) false t ∙ ap (option_map (after_first b)) f) ∙ e in
        absurd (cc)
    go false t (Some q) f ih =
        let same : Some (after_first b q) ≡ Some p = sym (run_here reach n from o b (c ∷ bs) (some_not_nil c bs) false t ∙ ap (option_map (after_first b)) f) ∙ e in
        let k = ih q f in
        subst (IsRunIn P (b ∷ c ∷ bs)) (same_some _ _ same) (record { is = ap (λ l. b ∷ l) k.is; begins = k.begins; back = k.back })

-- ---- all blocks from the first free one of a step on

-- a free block of fewer units is passed
passed : (n : ℕ) (b : machine.Block) (t : Bool) → (is_free b.tag ≡ true → b.size < n) → (is_free b.tag && (nat_le n b.size && t)) ≡ false
passed n b t few = go (is_free b.tag) refl
  where
    go : (x : Bool) → is_free b.tag ≡ x → (x && (nat_le n b.size && t)) ≡ false
    go true e = ap (λ x. x && t) (lt-leb n b.size (few e))
    go false e = refl

abbrev IsNil : List machine.Block → Type 0
IsNil bs = bs ≡ []

to_the_end_in : (bs : List machine.Block) → IsReach IsNil bs (to_the_end bs)
to_the_end_in bs = record { front = refl; is = sym (append-nil bs); back = refl }

run_there : (n o : ℕ) (fs : List machine.Block) (b : machine.Block) (bs : List machine.Block) → AllByRecursion (λ (d : machine.Block). is_free d.tag ≡ true → d.size < n) fs
    → is_free b.tag ≡ true → n ≤ b.size → bs ≢ [] → first_run to_the_end n 0 o (fs ++ b ∷ bs) ≡ Some (record { front = fs; run = b ∷ bs; back = [] })
run_there n o [] b bs few free whole more = run_here to_the_end n 0 o b bs more true
    (ap (λ t. t && (nat_le n b.size && nat_le 0 (o + b.size))) free ∙ ap₂ (λ (x y : Bool). x && y) (le-leb n b.size whole) (le-leb 0 (o + b.size) (omega arith)))
run_there n o (f ∷ fs) b bs few free whole more =
    run_here to_the_end n 0 o f (fs ++ b ∷ bs) (some fs) false (passed n f _ few.0) ∙ ap (option_map (after_first f)) (run_there n (o + f.size) fs b bs few.1 free whole more)
  where
    some : (gs : List machine.Block) → (gs ++ b ∷ bs) ≢ []
    some [] e = absurd (cc)
    some (g ∷ gs) e = absurd (cc)

-- there is none where the allocator finds none
none_there : (n o : ℕ) (ls : List Label) → run_by n (names ls) ≡ [] → first_run to_the_end n 0 o (tags ls) ≡ None
none_there n o [] e = refl
none_there n o (l ∷ []) e = refl
none_there n o (l ∷ m ∷ ls) e =
    ap (λ (z : Bool). if is_free l.tag && (nat_le n l.size && z) then Some (from_first (by_tag l) (to_the_end (tags (m ∷ ls)))) else option_map (after_first (by_tag l)) (first_run to_the_end n 0 (o + l.size) (tags (m ∷ ls))))
    (le-leb 0 (o + l.size) (omega arith)) ∙ go (is_free l.tag) (nat_le n l.size) e (λ h. none_there n (o + l.size) (m ∷ ls) h)
  where
    go : (t u : Bool) → (if not (not t) && u then names (l ∷ m ∷ ls) else run_by n (names (m ∷ ls))) ≡ [] → (run_by n (names (m ∷ ls)) ≡ [] → first_run to_the_end n 0 (o + l.size) (tags (m ∷ ls)) ≡ None)
        → (if t && (u && true) then Some (from_first (by_tag l) (to_the_end (tags (m ∷ ls)))) else option_map (after_first (by_tag l)) (first_run to_the_end n 0 (o + l.size) (tags (m ∷ ls)))) ≡ None
    go true true e ih = absurd (cc)
    go true false e ih = ap (option_map (after_first (by_tag l))) (ih e)
    go false u e ih = ap (option_map (after_first (by_tag l))) (ih e)

-- blocks that keep nothing
pub used_same : (n : ℕ) (ls : List Label) → length (by.used_up n (names ls)) ≡ used_up n (tags ls)
used_same n [] = refl
used_same n (l ∷ ls) = go (is_free l.tag) (nat_eq (kept n l.size (tags ls)) 0) (ap (λ k. nat_eq k 0) (kept_same n l.size ls)) (used_same n ls)
  where
    go : (t z : Bool) → nat_eq (by.kept n l.size (names ls)) 0 ≡ z → length (by.used_up n (names ls)) ≡ used_up n (tags ls)
        → length ((if not (not t) && nat_eq (by.kept n l.size (names ls)) 0 then by_name l ∷ [] else []) ++ by.used_up n (names ls)) ≡ (if t && z then 1 else 0) + used_up n (tags ls)
    go t z e ih = subst (λ y. length ((if not (not t) && y then by_name l ∷ [] else []) ++ by.used_up n (names ls)) ≡ (if t && z then 1 else 0) + used_up n (tags ls)) (sym e) (at t z)
      where
        at : (t z : Bool) → length ((if not (not t) && z then by_name l ∷ [] else []) ++ by.used_up n (names ls)) ≡ (if t && z then 1 else 0) + used_up n (tags ls)
        at true true = omega (arith, ih)
        at true false = omega (arith, ih)
        at false z = omega (arith, ih)

-- a run is refused on both sides
module _ (v : View) (hs : List (Option Handle)) (s : State) (w : IsWellFormed v) (ws : IsWell s) (g : HasBlocksOf v (kept_name hs) s) (n : ℕ) (ls : List Label) where
  none_spent : (us : List Block) → (us ≢ []) → (k : ℕ) → length us ≡ k → nat_eq k 0 ≡ false
  none_spent [] some k e = absurd (some refl)
  none_spent (u ∷ us) some k e = ne_eqb k 0 (λ q. absurd (omega (arith, e, q)))

  pub can_follow : CanFollow n v (names ls) → (nat_eq (used_up n (tags ls)) 0 && is_short_of 1 s) ≡ false
  can_follow (inl room) = ap (λ b. nat_eq (used_up n (tags ls)) 0 && b) (has_room v (kept_name hs) s w ws g 1 room) ∙ and_right (nat_eq (used_up n (tags ls)) 0) false refl
  can_follow (inr some) = ap (λ b. b && is_short_of 1 s) (none_spent (by.used_up n (names ls)) some (used_up n (tags ls)) (used_same n ls))

  pub cannot_follow : (CanFollow n v (names ls) → ⊥) → (nat_eq (used_up n (tags ls)) 0 && is_short_of 1 s) ≡ true
  cannot_follow none = go (nat_eq (used_up n (tags ls)) 0) refl (is_short_of 1 s) refl
    where
      go : (b : Bool) → nat_eq (used_up n (tags ls)) 0 ≡ b → (c : Bool) → is_short_of 1 s ≡ c → (nat_eq (used_up n (tags ls)) 0 && is_short_of 1 s) ≡ true
      go true f true h = ap₂ (λ x y. x && y) f h
      go false f c h = absurd (none (inr (λ q. true≢false (ap (λ k. nat_eq k 0) (ap (λ (l : List Block). length l) (sym q) ∙ used_same n ls) ∙ f))))
      go true f false h = absurd (none (inl (room_for v (kept_name hs) s w ws g 1 h)))

pub well_steps : (s : State) → IsWell s → (n : ℕ) → IsWell (compact_by n s (first_run to_the_end n 0 0 s.blocks)).state
well_steps s w n = go (first_run to_the_end n 0 0 s.blocks) refl
  where
    go : (o : Option Split) → first_run to_the_end n 0 0 s.blocks ≡ o → IsWell (compact_by n s o).state
    go None e = well_quiet s w machine.Gone
    go (Some p) e = let k = first_run_in IsNil to_the_end to_the_end_in n 0 0 s.blocks p e in well_slides s w n _ p k.is k.begins (ap starts_free k.back)

-- blocks from the first free one of a step on
record IsSplitBy (n : ℕ) (bs : List Block) : Type 0 where
  front : List Block
  first : Block
  rest : List Block
  is : bs ≡ front ++ first ∷ rest
  few : AllByRecursion (λ (b : Block). b.used ≡ false → b.size < n) front
  free : first.used ≡ false
  whole : n ≤ first.size
  more : rest ≢ []

few_tags : (n : ℕ) (ls : List Label) → AllByRecursion (λ (b : Block). b.used ≡ false → b.size < n) (names ls) → AllByRecursion (λ (d : machine.Block). is_free d.tag ≡ true → d.size < n) (tags ls)
few_tags n [] a = tt
few_tags n (l ∷ ls) a = (λ e. a.0 (ap not e), few_tags n ls a.1)

-- the run that the machine finds
module _ (v : View) (hs : List (Option Handle)) (s : State) (g : HasBlocksOf v (kept_name hs) s) (n : ℕ) (o : IsSplitBy n v.blocks) where
  parts : (front : List Label) × (back : List Label) × (g.labels ≡ front ++ back) × (names front ≡ o.front) × (names back ≡ o.first ∷ o.rest)
  parts = map_parts by_name g.labels o.front (o.first ∷ o.rest) (sym g.view ∙ o.is)

  -- the run that slides
  abbrev end_split : Split
  end_split = record { front = tags parts.0; run = tags parts.1; back = [] }

  found_there : first_run to_the_end n 0 0 s.blocks ≡ Some end_split
  found_there =
      let q = map_first by_name parts.1 o.first o.rest parts.4 in
      let whole : n ≤ q.0.size = subst (λ (b : Block). n ≤ b.size) (sym q.3) o.whole in
      ap (first_run to_the_end n 0 0) (g.state ∙ ap tags parts.2 ∙ map-append by_tag parts.0 parts.1 ∙ ap (λ l. tags parts.0 ++ tags l) q.2)
      ∙ run_there n 0 (tags parts.0) (by_tag q.0) (tags q.1) (few_tags n parts.0 (subst (AllByRecursion (λ (b : Block). b.used ≡ false → b.size < n)) (sym parts.3) o.few))
      (free (is_free q.0.tag) (ap (λ (b : Block). b.used) q.3 ∙ o.free)) whole (rest_there q.1 q.4)
      ∙ ap (λ l. Some (let p : Split = record { front = tags parts.0; run = tags l; back = [] } in p)) (sym q.2)
    where
      free : (t : Bool) → not t ≡ false → t ≡ true
      free true e = refl
      free false e = absurd (true≢false e)

      rest_there : (ls : List Label) → names ls ≡ o.rest → tags ls ≢ []
      rest_there [] e z = o.more (sym e)
      rest_there (l ∷ ls) e z = absurd (cc)

-- what a run leaves
module _ (v : View) (hs : List (Option Handle)) (s : State) (w : IsWellFormed v) (ws : IsWell s) (g : HasBlocksOf v (kept_name hs) s) (n : ℕ) (u : View) (w' : IsWellFormed u) (h : SlidesBy n v u) where
  abbrev slid_split : IsSplitBy n v.blocks
  slid_split = record { front = h.front; first = h.first; rest = h.rest; is = h.is; few = h.few; free = h.free; whole = h.whole; more = h.more }

  slides : IsSlidRun n v u h.front (h.first ∷ h.rest) []
  slides = record { is = h.is ∙ ap (λ l. h.front ++ l) (sym (append-nil (h.first ∷ h.rest))); name = h.name; view = h.view }

  abbrev found : (front : List Label) × (back : List Label) × (g.labels ≡ front ++ back) × (names front ≡ h.front) × (names back ≡ h.first ∷ h.rest)
  found = parts v hs s g n slid_split

  steps_agree : HasBlocksOf u (kept_name hs) (slid_run n s (end_split v hs s g n slid_split))
  steps_agree = run_agrees v hs s w ws g n u w' h.front (h.first ∷ h.rest) [] slides found.0 found.1 [] (found.2 ∙ ap (λ l. found.0 ++ l) (sym (append-nil found.1))) found.3 found.4 refl

-- ---- the step

module _ (v w : View) (hs left : List (Option Handle)) (r : Reply) (s : State) (formed : IsWellFormed w) (ws : IsWell s) (p : IsAtState v hs s) (n : ℕ) (e : left ≡ hs) where
  -- the machine has this reply, and leaves what the allocator does
  abbrev Agrees : Outcome → Type 0
  Agrees o = (r ≡ o.reply) × IsAtState w left o.state

  stays : (x : Reply) → SameState v w → r ≡ x → Agrees (replies_only s x)
  stays x same is = (
    is,
    subst (λ l. IsAtState w l (replies_only s x).state) (sym e)
        (record { formed = formed; agrees = agrees_but v w (kept_name hs) _ same (agrees_quiet v (kept_name hs) s p.agrees machine.Gone); grants = p.grants }),
  )

  moves_are : (ms : List Move) → AreNumbered hs (by.moves_by n 0 0 v.blocks) ms → ms ≡ moves_by n 0 0 s.blocks
  moves_are ms a = moves_agree n hs 0 0 p.agrees.labels ms (one_number v hs s p.formed ws p.agrees) (subst (λ bs. AreNumbered hs (by.moves_by n 0 0 bs) ms) p.agrees.view a)
      ∙ ap (moves_by n 0 0) (sym p.agrees.state)

  none_found : run_by n v.blocks ≡ [] → first_run to_the_end n 0 0 s.blocks ≡ None
  none_found e = ap (first_run to_the_end n 0 0) p.agrees.state ∙ none_there n 0 p.agrees.labels (ap (run_by n) (sym p.agrees.view) ∙ e)

  taken : (d : Bool) → CompactsBy n v w d → (ms : List Move) → AreNumbered hs (if d then by.moves_by n 0 0 v.blocks else []) ms → r ≡ slid_reply (done d) ms
      → Agrees (compact_by n s (first_run to_the_end n 0 0 s.blocks))
  taken true (inl t) ms a is = subst (λ o. Agrees (compact_by n s o)) (sym (none_found t.0))
      (stays (Compacted []) t.1 (is ∙ ap Compacted (none_numbered hs _ ms (none_whole n v.blocks t.0 0) a)))
  taken true (inr t) ms a is =
      let o = slid_split v hs s p.formed ws p.agrees n w formed t.1 in
      let q = end_split v hs s p.agrees n o in
      let ls = (parts v hs s p.agrees n o).1 in
      let now : State = slid_run n s q in
      let run : run_by n v.blocks ≡ names ls = ap (run_by n) o.is ∙ whole_there n o.front o.first o.rest o.few o.free o.whole o.more ∙ sym (parts v hs s p.agrees n o).4 in
      subst (λ o. Agrees (compact_by n s o)) (sym (found_there v hs s p.agrees n o))
      (subst (λ b. Agrees (if b then replies_only s (Answer machine.Refused) else record { state = now; reply = Compacted (moves_by n 0 0 s.blocks) }))
      (sym (can_follow v hs s p.formed ws p.agrees n ls (subst (CanFollow n v) run t.0))) (
        is ∙ ap Compacted (moves_are ms a),
        subst (λ l. IsAtState w l now) (sym e)
            (record { formed = formed; agrees = steps_agree v hs s p.formed ws p.agrees n w formed t.1; grants = p.grants }),
      ))
  taken false t ms a is = go (run_by n v.blocks) refl
    where
      go : (bs : List Block) → run_by n v.blocks ≡ bs → Agrees (compact_by n s (first_run to_the_end n 0 0 s.blocks))
      go [] f = absurd (t.0 f)
      go (b ∷ bs) f =
          let i : IsWhole n v.blocks b.name = whole_is n v.blocks b.name (ap (first_or None) f) in
          let o : IsSplitBy n v.blocks = record { front = i.front; first = i.first; rest = i.rest; is = i.is; few = i.few; free = i.free; whole = i.whole; more = i.more } in
          let ls = (parts v hs s p.agrees n o).1 in
          let run : names ls ≡ run_by n v.blocks = (parts v hs s p.agrees n o).4 ∙ sym i.run in
          let q = end_split v hs s p.agrees n o in
          subst (λ o. Agrees (compact_by n s o)) (sym (found_there v hs s p.agrees n o))
          (subst (λ b. Agrees (if b then replies_only s (Answer machine.Refused) else record { state = slid_run n s q; reply = Compacted (moves_by n 0 0 s.blocks) }))
          (sym (cannot_follow v hs s p.formed ws p.agrees n ls (λ c. t.1 (subst (CanFollow n v) run c)))) (stays (Answer machine.Refused) t.2 is))

  pub steps_taken : TakesSlide (call.CompactBy n) v hs w r → Agrees (compact_by n s (first_run to_the_end n 0 0 s.blocks))
  steps_taken t = taken t.2.0 t.2.1 t.3 (subst (λ xs. AreNumbered hs xs t.3) t.2.3 t.4) (t.5 ∙ ap (λ o. slid_reply o t.3) t.2.2)
