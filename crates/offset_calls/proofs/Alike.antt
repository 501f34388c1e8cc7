-- Two states that differ only in numbers, and in stamps of the same order in each class, give the same replies.
use Rattle.offset_calls.proofs.Common.{◌≡◌, ℕ, ◌+◌, ◌-◌, ◌*◌, Bool, true, false, not, ◌&&◌, ◌||◌, ◌⊎◌, List, [], ◌∷◌, ◌++◌, map, sum, Option, None, is_some, nat_eq, nat_le, if◌then◌else◌, refl, sym}
use Rattle.offset_calls.proofs.Common.{ap, ap₂, subst, subst₂, ◌∙◌, inl, inr, arith, eq-eqb, ne_eqb, le-leb, cases_eq, cases_lt, true≢false, false≢true, lt-leb, map-append, number_without, State}
use Rattle.offset_calls.proofs.Common.{is_free, has_number, free_sizes, place_of, chosen_place, units_at_start, without_start, free_part, stamp_of_call, fits, Call, Reply, Answer, Compacted, Offset}
use Rattle.offset_calls.proofs.Common.{Refusal, Outcome, starts_free, resize, resized, replies_only, number, move_of, moves, gathered, compact, offset_at, reason, step, replies, renumber}
use Rattle.offset_calls.proofs.Common.{number_with, raise_move, raise, option_map, Some, Nodes, and_parts, is_short_of, total}
use Rattle.offset_script.specs.{Totals.live, Machine.is_taken_before}
use Rattle.offset_script.proofs.Alike.{IsAlike, IsMatched, IsFreshKind, alike_step, same_placed, same_quiet, same_leaves, fresh_kinds, matched_in_new, agree_in_new, either}
use Rattle.offset_script.proofs.{Alike.IsSameOutcome, Alike.same_granted, Members.IsIn, Members.in_append, Members.in_left, Members.in_right, Tests.if_same, Found.found_at, Labels.map_three}
use Rattle.offset_script.proofs.{Pairs.same_sizes, Tests.same_and, Members.in_parts}
use Rattle.offset_script.proofs.Pairs.{Kind, Lives, Frees, Pair, pair, left_tag, right_tag, left, right, lefts, rights, AreAgreed, IsSameOrder, IsSamePlace, neither, both, same_free, same_total}
use Rattle.offset_script.proofs.Pairs.{same_units, same_short, same_free_sizes, same_chosen, pair_free_part, lefts_free_part, rights_free_part, in_free_part, AreAllAgreed, same_tests}
use Rattle.std.specs.Option.{option_or}
use Rattle.offset_allocator.specs.{Classes.down, View.padding_to, Classes.value, Classes.up, declared.moves.room.RoomCost.RoomCost}
use Rattle.offset_calls.specs.Calls.{answered, Found, beside, make_room, remakes, RoomMade}
use Rattle.offset_calls.specs.Calls as plain
use Rattle.offset_calls.specs.declared.calls.LiveRange.{LiveRange}
use Rattle.offset_calls.specs.{Ending.first_live, Ending.last_live, Ending.live_before, Ending.live_after, Histories.raise_range, Room.Split, Room.cheapest, Room.slid}
use Rattle.offset_calls.proofs.SteppedPairs.{kept_right, run_alike, used_pairs}
use Rattle.offset_calls.specs.{Stepped.kept, Stepped.first_run, Stepped.to_the_end, Budget.is_within, Budget.longest_that}
use Rattle.offset_calls.specs.Calls.{CompactedWithin, moves_by, moves_of_run, slides_run, compact_by, compact_within, make_room_by}
use Rattle.offset_calls.proofs.EndPairs.{same_can, retracted_alike, same_relocated, same_relocated_aligned, IsSent, AreSent, sent_first, sent_last}
use Rattle.offset_calls.specs.Tight.{holds, better, holding_place, request_tight, allocate_tight, lack, reason_held}
use Rattle.offset_calls.specs.AtOffset.{last_place, request_at, allocate_at}
use Rattle.offset_calls.proofs.AtPairs.{same_last_place, same_can_take}
use Rattle.offset_calls.specs.Room as room
use Rattle.offset_calls.proofs.Splits.{IsSameSplit, no_split, same_split, same_cost, same_cheapest, same_room_cost, same_cheapest_by, same_to_the_end, same_within, same_goes_on}
use Rattle.std.specs.Prelude.{min}
use Rattle.offset_script.specs.Histories.{raise_number}
use Rattle.offset_script.specs.declared.scripts.Command.TheVariants as command
use Rattle.offset_calls.specs.Calls.{begin_of}
use Rattle.offset_script.specs.Machine as machine
use Rattle.offset_calls.specs.declared.calls.Call.TheVariants as call

same_holds : (n align o : ℕ) (q : Pair) → holds n align o (left q) ≡ holds n align o (right q)
same_holds n align o q = ap (λ b. b && nat_le (padding_to align o + n) q.size) (same_free q.kind)

-- the same reply, except for numbers, and states that are alike again
pub record AreSame (r : ℕ → ℕ) (g d : ℕ) (o p : Outcome) : Type 0 where
  pub reply : o.reply ≡ raise g d p.reply
  pub state : IsAlike r d o.state p.state

-- pairs without a free one at the start
abbrev without_pairs : List Pair → List Pair
without_pairs [] = []
without_pairs (q ∷ ps) = if is_free (left_tag q.kind) then ps else q ∷ ps

lefts_without : (ps : List Pair) → lefts (without_pairs ps) ≡ without_start (lefts ps)
lefts_without [] = refl
lefts_without (q ∷ ps) = elim (is_free (left_tag q.kind)) as (λ x. lefts (if x then ps else q ∷ ps) ≡ (if x then lefts ps else left q ∷ lefts ps)) [ true ↦ refl | false ↦ refl ]

rights_without : (ps : List Pair) → rights (without_pairs ps) ≡ without_start (rights ps)
rights_without [] = refl
rights_without (q ∷ ps) = search (arith, left_tag, rights, right, same_free)

in_without : (q : Pair) (ps : List Pair) → IsIn q (without_pairs ps) → IsIn q ps
in_without q [] i = i
in_without q (p ∷ ps) i = elim (is_free (left_tag p.kind)) as (λ x. IsIn q (if x then ps else p ∷ ps) → IsIn q (p ∷ ps)) [ true ↦ λ i. inr i | false ↦ λ i. i ] i

pub same_starts : (ps : List Pair) → starts_free (lefts ps) ≡ starts_free (rights ps)
same_starts [] = refl
same_starts (q ∷ ps) = same_free q.kind

pub same_free_start : (ps : List Pair) → units_at_start (lefts ps) ≡ units_at_start (rights ps)
same_free_start [] = refl
same_free_start (q ∷ ps) = ap (λ x. if x then q.size else 0) (same_free q.kind)

-- pairs of live blocks
abbrev live_pairs : List Pair → List Pair
live_pairs [] = []
live_pairs (q ∷ ps) = if is_free (left_tag q.kind) then live_pairs ps else q ∷ live_pairs ps

lefts_live : (ps : List Pair) → lefts (live_pairs ps) ≡ live (lefts ps)
lefts_live [] = refl
lefts_live (q ∷ ps) = search (arith, (lefts_live ps), not)

rights_live : (ps : List Pair) → rights (live_pairs ps) ≡ live (rights ps)
rights_live [] = refl
rights_live (q ∷ ps) = search (arith, (rights_live ps), not, same_free)

in_live : (q : Pair) (ps : List Pair) → IsIn q (live_pairs ps) → IsIn q ps
in_live q [] i = i
in_live q (p ∷ ps) i = go (is_free (left_tag p.kind)) refl (λ j. in_live q ps j)
  where
    go : (x : Bool) → is_free (left_tag p.kind) ≡ x → (IsIn q (live_pairs ps) → IsIn q ps) → IsIn q (p ∷ ps)
    go true e ih = inr (ih (subst (λ x. IsIn q (if x then live_pairs ps else p ∷ live_pairs ps)) e i))
    go false e ih = search (arith)

-- the free block of a compaction
abbrev pair_gathered : ℕ → ℕ → List ℕ → List Pair
pair_gathered s u [] = []
pair_gathered s u (n ∷ ns) = pair (n + sum ns) (Frees s u) ∷ []

lefts_gathered : (s u : ℕ) (ns : List ℕ) → lefts (pair_gathered s u ns) ≡ gathered s ns
lefts_gathered s u [] = refl
lefts_gathered s u (n ∷ ns) = refl

rights_gathered : (s u : ℕ) (ns : List ℕ) → rights (pair_gathered s u ns) ≡ gathered u ns
rights_gathered s u [] = refl
rights_gathered s u (n ∷ ns) = refl

in_gathered : (q : Pair) (s u : ℕ) (ns : List ℕ) → IsIn q (pair_gathered s u ns) → q.kind ≡ Frees s u
in_gathered q s u [] i = absurd i
in_gathered q s u (n ∷ ns) (inl e) = ap (λ (z : Pair). z.kind) e
in_gathered q s u (n ∷ ns) (inr i) = absurd i

-- a live pair has the order of any other
order_left : (k l : Kind) (i j : ℕ) → k ≡ Lives i j → IsSameOrder k l
order_left k l i j e = subst (λ x. IsSameOrder x l) (sym e) tt

order_right : (k l : Kind) (i j : ℕ) → l ≡ Lives i j → IsSameOrder k l
order_right k l i j e = search (arith)

live_kind : (k : ℕ) (q : Kind) → has_number k (left_tag q) ≡ true → (i : ℕ) × (j : ℕ) × (q ≡ Lives i j)
live_kind k (Lives i j) e = (i, j, refl)
live_kind k (Frees s u) e = absurd (false≢true e)

-- where a grant begins, whatever its number
begin_raised : (g d : ℕ) (x : machine.Answer) → begin_of (raise_number d x) ≡ raise g d (begin_of x)
begin_raised g d (machine.Grant k o) = refl
begin_raised g d machine.Refused = refl
begin_raised g d machine.Freed = refl
begin_raised g d machine.Gone = refl
begin_raised g d (machine.Size n) = refl
begin_raised g d (machine.Report n m) = refl
begin_raised g d (machine.Full rows) = refl
begin_raised g d machine.Reset = refl
begin_raised g d machine.Extended = refl

module _ (r : ℕ → ℕ) (g d : ℕ) (back : (k : ℕ) → r (number_with g d k) ≡ k) (s t : State) (a : IsAlike r d s t) where
  quiet : (x y : Reply) → x ≡ raise g d y → AreSame r g d (replies_only s x) (replies_only t y)
  quiet x y e = record { reply = e; state = (same_quiet r d s t a machine.Gone machine.Gone refl).state }

  -- a live pair that gets another size, beside pairs that were there and new free ones
  module _ (n m : ℕ) (xs : List Pair) (q : Pair) (ys : List Pair) (i j : ℕ) (e : a.pairs ≡ xs ++ q ∷ ys) (l : q.kind ≡ Lives i j) where
    abbrev ps : List Pair
    ps = xs ++ (pair n q.kind ∷ (pair_free_part m (Frees (2 * (s.calls + 1) + 1) (2 * (t.calls + 1) + 1)) ++ without_pairs ys))

    here : IsIn q a.pairs
    here = subst (IsIn q) (sym e) (in_right q xs (q ∷ ys) (inl refl))

    -- old, or new, or the one that is resized
    which : (x : Pair) → IsIn x ps → (IsIn x a.pairs ⊎ IsFreshKind s.grants t.grants s.calls t.calls x.kind) ⊎ (x.kind ≡ q.kind)
    which x h = elim (in_append x xs _ h) [
      | inl o ↦ inl (inl (subst (IsIn x) (sym e) (in_left x xs (q ∷ ys) o)))
      | inr (inl z) ↦ inr (ap (λ (z : Pair). z.kind) z)
      | inr (inr o) ↦ elim (in_append x (pair_free_part m (Frees (2 * (s.calls + 1) + 1) (2 * (t.calls + 1) + 1))) (without_pairs ys) o) [
        | inl f ↦ inl (inr (fresh_kinds s.grants t.grants s.calls t.calls x (inr (inr (in_free_part x m _ f)))))
        | inr f ↦ inl (inl (subst (IsIn x) (sym e) (in_right x xs (q ∷ ys) (inr (in_without x ys f)))))
      ]
    ]

    matched : (x : Pair) → (IsIn x a.pairs ⊎ IsFreshKind s.grants t.grants s.calls t.calls x.kind) ⊎ (x.kind ≡ q.kind) → IsMatched r (2 * (s.calls + 1 + 1)) (2 * (t.calls + 1 + 1)) x.kind
    matched x (inl o) = matched_in_new r d s.grants t.grants s.calls t.calls a.grants a.past a.future x.kind (either r d s t a x o)
    matched x (inr z) = subst (IsMatched r (2 * (s.calls + 1 + 1)) (2 * (t.calls + 1 + 1))) (sym z)
        (matched_in_new r d s.grants t.grants s.calls t.calls a.grants a.past a.future q.kind (inl (a.matched q here)))

    ordered : (x y : Pair) → (IsIn x a.pairs ⊎ IsFreshKind s.grants t.grants s.calls t.calls x.kind) ⊎ (x.kind ≡ q.kind)
        → (IsIn y a.pairs ⊎ IsFreshKind s.grants t.grants s.calls t.calls y.kind) ⊎ (y.kind ≡ q.kind) → AreAgreed x y
    ordered x y (inl o) (inl u) = agree_in_new r d s t a x y o u
    ordered x y (inr z) u = λ same. order_left x.kind y.kind i j (z ∙ l)
    ordered x y (inl o) (inr z) = λ same. order_right x.kind y.kind i j (z ∙ l)

    resized_alike : IsAlike r d (record { limit = s.limit; blocks = lefts ps; calls = s.calls + 1; grants = s.grants })
        (record { limit = t.limit; blocks = rights ps; calls = t.calls + 1; grants = t.grants })
    resized_alike =
        let agree = λ (x y : Pair) (h : IsIn x ps) (k : IsIn y ps). ordered x y (which x h) (which y k) in
        let matched = λ (x : Pair) (h : IsIn x ps). matched x (which x h) in
        record { limit = a.limit; pairs = ps; left_blocks = refl; right_blocks = refl; matched = matched; agree = agree; grants = a.grants; past = a.past; future = a.future }

  -- a resized range on both sides
  resized_same : (n : ℕ) (xs : List Pair) (q : Pair) (ys : List Pair) (i j : ℕ) → a.pairs ≡ xs ++ q ∷ ys → q.kind ≡ Lives i j
      → AreSame r g d (resized n s (record { before = lefts xs; block = left q; after = lefts ys })) (resized n t (record { before = rights xs; block = right q; after = rights ys }))
  resized_same n xs q ys i j e l =
      let m = q.size + units_at_start (lefts ys) - n in
      record {
        reply = refl;
        state = subst₂ (λ bs cs. IsAlike r d (record { limit = s.limit; blocks = bs; calls = s.calls + 1; grants = s.grants })
            (record { limit = t.limit; blocks = cs; calls = t.calls + 1; grants = t.grants })) on_left on_right (resized_alike n m xs q ys i j e l);
      }
    where
      on_left : lefts (xs ++ (pair n q.kind ∷ (pair_free_part (q.size + units_at_start (lefts ys) - n) (Frees (2 * (s.calls + 1) + 1) (2 * (t.calls + 1) + 1)) ++ without_pairs ys)))
          ≡ lefts xs ++ (machine.block n (left_tag q.kind) ∷ (free_part (q.size + units_at_start (lefts ys) - n) (stamp_of_call s) ++ without_start (lefts ys)))
      on_left = search (arith, map-append, left, lefts, left_tag, pair_free_part, lefts_free_part, lefts_without)

      on_right : rights (xs ++ (pair n q.kind ∷ (pair_free_part (q.size + units_at_start (lefts ys) - n) (Frees (2 * (s.calls + 1) + 1) (2 * (t.calls + 1) + 1)) ++ without_pairs ys)))
          ≡ rights xs ++ (machine.block n (right_tag q.kind) ∷ (free_part (q.size + units_at_start (rights ys) - n) (stamp_of_call t) ++ without_start (rights ys)))
      on_right = search (arith, map-append, right, rights, right_tag, pair_free_part, lefts, rights_free_part, same_free_start, rights_without)

  resize_same : (k n : ℕ) (can can' : machine.Place → Bool) (o o' : Option machine.Place) → place_of k s.blocks ≡ o → IsSamePlace (λ q. Unit {0}) a.pairs o o'
      → ((xs : List Pair) (q : Pair) (ys : List Pair) → can (record { before = lefts xs; block = left q; after = lefts ys }) ≡ can' (record { before = rights xs; block = right q; after = rights ys }))
      → AreSame r g d (resize can n s o) (resize can' n t o')
  resize_same k n can can' None None e neither same = quiet _ _ refl
  resize_same k n can can' o o' e (both xs q ys f u) same =
      let l = live_kind k q.kind (found_at k s.blocks _ e).1 in
      if_same (AreSame r g d) _ _ _ _ _ _ refl (λ z. quiet _ _ refl) (if_same (AreSame r g d) _ _ _ _ _ _ (same xs q ys) (λ z. resized_same n xs q ys l.0 l.1 f l.2) (quiet _ _ refl))

  -- the numbers of moves
  number_back : (q : Pair) → IsIn q a.pairs → is_free (left_tag q.kind) ≡ false → number (left_tag q.kind) ≡ number_with g d (number (right_tag q.kind))
  number_back q i f = go q.kind (a.matched q i) f
    where
      go : (k : Kind) → IsMatched r (2 * (s.calls + 1)) (2 * (t.calls + 1)) k → is_free (left_tag k) ≡ false → number (left_tag k) ≡ number_with g d (number (right_tag k))
      go (Frees x y) m f = absurd (true≢false f)
      go (Lives x y) m f = search (arith, cases_eq, true≢false, eq-eqb, ne_eqb)

  moves_same : (from to : ℕ) (ps : List Pair) → ((q : Pair) → IsIn q ps → IsIn q a.pairs) → moves from to (lefts ps) ≡ map (raise_move g d) (moves from to (rights ps))
  moves_same from to [] h = refl
  moves_same from to (q ∷ ps) h = go (is_free (left_tag q.kind)) refl (nat_eq from to) refl (λ u. moves_same (from + q.size) u ps (λ x i. h x (inr i)))
    where
      go : (x : Bool) → is_free (left_tag q.kind) ≡ x → (b : Bool) → nat_eq from to ≡ b → ((u : ℕ) → moves (from + q.size) u (lefts ps) ≡ map (raise_move g d) (moves (from + q.size) u (rights ps)))
          → moves from to (lefts (q ∷ ps)) ≡ map (raise_move g d) (moves from to (rights (q ∷ ps)))
      go true e b f ih = search (arith, lefts, left, map, rights, right, same_free)
      go false e b f ih =
          ap (λ x. if x then moves (from + q.size) to (lefts ps) else move_of from to (left q) ++ moves (from + q.size) (to + q.size) (lefts ps)) e
          ∙ ap₂ (λ x y. x ++ y) (one b f) (ih (to + q.size)) ∙ sym (map-append (raise_move g d) (move_of from to (right q)) (moves (from + q.size) (to + q.size) (rights ps)))
          ∙ sym (ap (λ x. map (raise_move g d) (if x then moves (from + q.size) to (rights ps) else move_of from to (right q) ++ moves (from + q.size) (to + q.size) (rights ps)))
          (sym (same_free q.kind) ∙ e))
        where
          one : (b : Bool) → nat_eq from to ≡ b → move_of from to (left q) ≡ map (raise_move g d) (move_of from to (right q))
          one true f = search (arith, left_tag, map, right_tag)
          one false f = ap (λ b. if b then [] else record { number = number (left_tag q.kind); from = from; to = to; size = q.size } ∷ []) f
              ∙ ap (λ (k : ℕ). record { number = k; from = from; to = to; size = q.size } ∷ []) (number_back q (h q (inl refl)) e)
              ∙ sym (ap (λ b. map (raise_move g d) (if b then [] else record { number = number (right_tag q.kind); from = from; to = to; size = q.size } ∷ [])) f)

  moves_by_same : (n from to : ℕ) (ps : List Pair) → ((q : Pair) → IsIn q ps → IsIn q a.pairs) → moves_by n from to (lefts ps) ≡ map (raise_move g d) (moves_by n from to (rights ps))
  moves_by_same n from to [] h = refl
  moves_by_same n from to (q ∷ ps) h = go (is_free (left_tag q.kind)) refl (nat_eq from to) refl (λ u. moves_by_same n (from + q.size) u ps (λ x i. h x (inr i)))
    where
      go : (x : Bool) → is_free (left_tag q.kind) ≡ x → (b : Bool) → nat_eq from to ≡ b
          → ((u : ℕ) → moves_by n (from + q.size) u (lefts ps) ≡ map (raise_move g d) (moves_by n (from + q.size) u (rights ps)))
          → moves_by n from to (lefts (q ∷ ps)) ≡ map (raise_move g d) (moves_by n from to (rights (q ∷ ps)))
      go true e b f ih =
          ap (λ x. if x then moves_by n (from + q.size) (to + kept n q.size (lefts ps)) (lefts ps) else move_of from to (left q) ++ moves_by n (from + q.size) (to + q.size) (lefts ps)) e
          ∙ ih (to + kept n q.size (lefts ps)) ∙ ap (λ k. map (raise_move g d) (moves_by n (from + q.size) (to + k) (rights ps))) (kept_right n q.size ps)
          ∙ sym (ap (λ x. map (raise_move g d) (if x then moves_by n (from + q.size) (to + kept n q.size (rights ps)) (rights ps)
          else move_of from to (right q) ++ moves_by n (from + q.size) (to + q.size) (rights ps))) (sym (same_free q.kind) ∙ e))
      go false e b f ih =
          ap (λ x. if x then moves_by n (from + q.size) (to + kept n q.size (lefts ps)) (lefts ps) else move_of from to (left q) ++ moves_by n (from + q.size) (to + q.size) (lefts ps)) e
          ∙ ap₂ (λ x y. x ++ y) (one b f) (ih (to + q.size)) ∙ sym (map-append (raise_move g d) (move_of from to (right q)) (moves_by n (from + q.size) (to + q.size) (rights ps)))
          ∙ sym (ap (λ x. map (raise_move g d) (if x then moves_by n (from + q.size) (to + kept n q.size (rights ps)) (rights ps)
          else move_of from to (right q) ++ moves_by n (from + q.size) (to + q.size) (rights ps))) (sym (same_free q.kind) ∙ e))
        where
          one : (b : Bool) → nat_eq from to ≡ b → move_of from to (left q) ≡ map (raise_move g d) (move_of from to (right q))
          one true f = search (arith, left_tag, map, right_tag)
          one false f = ap (λ b. if b then [] else record { number = number (left_tag q.kind); from = from; to = to; size = q.size } ∷ []) f
              ∙ ap (λ (k : ℕ). record { number = k; from = from; to = to; size = q.size } ∷ []) (number_back q (h q (inl refl)) e)
              ∙ sym (ap (λ b. map (raise_move g d) (if b then [] else record { number = number (right_tag q.kind); from = from; to = to; size = q.size } ∷ [])) f)

  -- a run that slides by whole steps
  run_moves_same : (n : ℕ) (f k b : List Pair) → a.pairs ≡ f ++ (k ++ b)
      → moves_of_run n (record { front = lefts f; run = lefts k; back = lefts b }) ≡ map (raise_move g d) (moves_of_run n (record { front = rights f; run = rights k; back = rights b }))
  run_moves_same n f k b e = moves_by_same n (total (lefts f)) (total (lefts f)) k (λ q i. subst (IsIn q) (sym e) (in_right q f (k ++ b) (in_left q k b i)))
      ∙ ap (λ m. map (raise_move g d) (moves_by n m m (rights k))) (same_total f)

  slides_same : (n : ℕ) (x y : Reply) (f k b : List Pair) → a.pairs ≡ f ++ (k ++ b) → x ≡ raise g d y
      → AreSame r g d (slides_run n s x (record { front = lefts f; run = lefts k; back = lefts b })) (slides_run n t y (record { front = rights f; run = rights k; back = rights b }))
  slides_same n x y f k b e is = if_same (AreSame r g d) _ _ _ _ _ _
      (ap₂ (λ (x y : Bool). x && y) (ap (λ u. nat_eq u 0) (used_pairs n k)) (same_short s t a.pairs a.limit a.left_blocks a.right_blocks 1)) (λ z. quiet _ _ refl) (record { reply = is; state = run_alike r d s t a n f k b e })

  stepped_same : (n : ℕ) (o o' : Option Split) → IsSameSplit a.pairs o o' → AreSame r g d (compact_by n s o) (compact_by n t o')
  stepped_same n None None no_split = quiet _ _ refl
  stepped_same n o o' (same_split f k b e) = slides_same n _ _ f k b e
      (ap Compacted (ap (moves_by n 0 0) a.left_blocks ∙ moves_by_same n 0 0 a.pairs (λ q i. i) ∙ ap (λ bs. map (raise_move g d) (moves_by n 0 0 bs)) (sym a.right_blocks)))

  within_same : (n : ℕ) (o o' : Option Split) → IsSameSplit a.pairs o o' → AreSame r g d (compact_within n s o) (compact_within n t o')
  within_same n None None no_split = quiet _ _ refl
  within_same n o o' (same_split f k b e) = slides_same n _ _ f k b e (ap₂ (λ p l. CompactedWithin p l) (same_goes_on f k b) (run_moves_same n f k b e))

  compact_same : AreSame r g d (compact s) (compact t)
  compact_same = record {
    reply = ap Compacted (ap (moves 0 0) a.left_blocks ∙ moves_same 0 0 a.pairs (λ q i. i) ∙ ap (λ bs. map (raise_move g d) (moves 0 0 bs)) (sym a.right_blocks));
    state = (same_leaves r d s t a machine.Gone machine.Gone (live_pairs a.pairs ++ pair_gathered (2 * (s.calls + 1) + 1) (2 * (t.calls + 1) + 1) (free_sizes s.blocks)) _ _ refl
        (ap₂ (λ x y. x ++ y) (ap live a.left_blocks ∙ sym (lefts_live a.pairs)) (sym (lefts_gathered _ _ (free_sizes s.blocks))) ∙ sym (map-append left (live_pairs a.pairs) _))
        (ap₂ (λ x y. x ++ y) (ap live a.right_blocks ∙ sym (rights_live a.pairs))
        (ap (gathered (stamp_of_call t)) (sym (same_free_sizes s t a.pairs a.limit a.left_blocks a.right_blocks)) ∙ sym (rights_gathered _ _ (free_sizes s.blocks)))
        ∙ sym (map-append right (live_pairs a.pairs) _))
        (λ q i. elim (in_append q (live_pairs a.pairs) _ i) [
          | inl h ↦ inl (in_live q a.pairs h)
          | inr h ↦ inr (fresh_kinds s.grants t.grants s.calls t.calls q (inr (inr (in_gathered q _ _ (free_sizes s.blocks) h))))
        ])).state;
  }

  -- questions
  offset_same : (o o' : Option machine.Place) → IsSamePlace (λ q. Unit {0}) a.pairs o o' → offset_at o ≡ raise g d (offset_at o')
  offset_same None None neither = refl
  offset_same o o' (both xs q ys e f) = ap Offset (same_total xs)

  some_same : (n : ℕ) (o o' : Option machine.Place) → IsSamePlace (λ x. fits n (left x) ≡ true) a.pairs o o' → is_some o ≡ is_some o'
  some_same n None None neither = refl
  some_same n o o' (both xs q ys e f) = refl

  reason_same : (k n : ℕ) → reason k n s ≡ reason k n t
  reason_same k n =
      let some = some_same n _ _ (subst₂ (λ x y. IsSamePlace (λ q. fits n (left q) ≡ true) a.pairs (chosen_place n x) (chosen_place n y)) (sym a.left_blocks) (sym a.right_blocks)
      (same_chosen n a.pairs a.agree)) in
      search (arith, some, same_short, same_units, same_free_sizes, sum)

  -- a request that takes any free block which holds it
  same_held_step : (n align o : ℕ) (q : Pair) (ps : List Pair) (x y : Option machine.Place) → AreAllAgreed (q ∷ ps) → IsSamePlace (λ q. is_free (left_tag q.kind) ≡ true) ps x y
      → IsSamePlace (λ q. is_free (left_tag q.kind) ≡ true) (q ∷ ps) (better (holds n align o (left q)) (left q) (lefts ps) x) (better (holds n align o (right q)) (right q) (rights ps) y)
  same_held_step n align o q ps None None agree neither = if_same (IsSamePlace _ (q ∷ ps)) _ _ _ _ _ _ (same_holds n align o q) (λ e. both [] q ps refl (and_parts _ _ e).0) neither
  same_held_step n align o q ps x y agree (both xs z ys e f) = if_same (IsSamePlace (λ q. is_free (left_tag q.kind) ≡ true) (q ∷ ps)) _ _ _ _ _ _
      (same_and (holds n align o (left q)) _ _
      (λ g. same_tests (down q.size) (down z.size) q.kind z.kind (and_parts _ _ g).0 f (agree z q (inr (subst (IsIn z) (sym e) (in_right z xs (z ∷ ys) (inl refl)))) (inl refl)))
      ∙ ap (λ b. b && is_taken_before (right q) (right z)) (same_holds n align o q))
      (λ h. both [] q ps refl (and_parts _ _ (and_parts _ _ h).0).0) (both (q ∷ xs) z ys (ap (λ l. q ∷ l) e) f)

  same_held : (n align o : ℕ) (ps : List Pair) → AreAllAgreed ps → IsSamePlace (λ q. is_free (left_tag q.kind) ≡ true) ps (holding_place n align o (lefts ps)) (holding_place n align o (rights ps))
  same_held n align o [] agree = neither
  same_held n align o (q ∷ ps) agree = same_held_step n align o q ps _ _ agree (same_held n align (o + q.size) ps (λ a b x y. agree a b (inr x) (inr y)))

  any_place : (P : Pair → Type 0) (ps : List Pair) (x y : Option machine.Place) → IsSamePlace P ps x y → IsSamePlace (λ q. Unit {0}) ps x y
  any_place P ps None None neither = neither
  any_place P ps x y (both xs q ys e f) = both xs q ys e tt

  same_either : (ps : List Pair) (x y x' y' : Option machine.Place) → IsSamePlace (λ q. Unit {0}) ps x y → IsSamePlace (λ q. Unit {0}) ps x' y'
      → IsSamePlace (λ q. Unit {0}) ps (option_or x x') (option_or y y')
  same_either ps None None x' y' neither h = h
  same_either ps x y x' y' (both xs q ys e f) h = both xs q ys e f

  held_places : (n align : ℕ) → IsSamePlace (λ q. Unit {0}) a.pairs (holding_place n align 0 s.blocks) (holding_place n align 0 t.blocks)
  held_places n align = subst₂ (λ x y. IsSamePlace (λ q. Unit {0}) a.pairs (holding_place n align 0 x) (holding_place n align 0 y)) (sym a.left_blocks) (sym a.right_blocks)
      (any_place _ a.pairs _ _ (same_held n align 0 a.pairs a.agree))

  chosen_places : (n : ℕ) → IsSamePlace (λ q. Unit {0}) a.pairs (chosen_place n s.blocks) (chosen_place n t.blocks)
  chosen_places n = subst₂ (λ x y. IsSamePlace (λ q. Unit {0}) a.pairs (chosen_place n x) (chosen_place n y)) (sym a.left_blocks) (sym a.right_blocks)
      (any_place _ a.pairs _ _ (same_chosen n a.pairs a.agree))

  request_same : (spare needed n align : ℕ) → IsSameOutcome r d (request_tight s spare needed n align) (request_tight t spare needed n align)
  request_same spare needed n align = if_same (IsSameOutcome r d) _ _ _ _ _ _ (same_short s t a.pairs a.limit a.left_blocks a.right_blocks spare) (λ e. same_quiet r d s t a _ _ refl)
      (same_granted r d s t a n (λ q. Unit {0}) (padding_to align) _ _ (same_either a.pairs _ _ _ _ (chosen_places needed) (held_places n align)))

  tight_same : (n align : ℕ) → AreSame r g d (answered (allocate_tight n align s)) (answered (allocate_tight n align t))
  tight_same n align =
      let o = if_same (IsSameOutcome r d) (nat_le align 1) (nat_le align 1) _ _ _ _ refl (λ e. request_same 1 n n align) (request_same 2 (n + align - 1) n align) in
      record { reply = ap Answer o.answer; state = o.state }

  -- a request for the units from an offset on
  last_places : (offset : ℕ) → IsSamePlace (λ q. Unit {0}) a.pairs (last_place offset 0 s.blocks) (last_place offset 0 t.blocks)
  last_places offset = subst₂ (λ x y. IsSamePlace (λ q. Unit {0}) a.pairs (last_place offset 0 x) (last_place offset 0 y)) (sym a.left_blocks) (sym a.right_blocks) (same_last_place offset 0 a.pairs)

  at_outcome : (offset n : ℕ) (o o' : Option machine.Place) → IsSamePlace (λ q. Unit {0}) a.pairs o o' → IsSameOutcome r d (request_at offset n s o) (request_at offset n t o')
  at_outcome offset n None None neither = same_quiet r d s t a _ _ refl
  at_outcome offset n o o' (both xs q ys e f) = if_same (IsSameOutcome r d) _ _ _ _ _ _ (same_can_take offset n s t (same_short s t a.pairs a.limit a.left_blocks a.right_blocks) xs q ys)
      (λ z. same_granted r d s t a n (λ q. Unit {0}) (λ begin. offset - begin) _ _ (both xs q ys e f)) (same_quiet r d s t a _ _ refl)

  at_same : (offset n : ℕ) → AreSame r g d (answered (allocate_at offset n s)) (answered (allocate_at offset n t))
  at_same offset n = let o = at_outcome offset n _ _ (last_places offset) in record { reply = ap Answer o.answer; state = o.state }

  some_place : (x y : Option machine.Place) → IsSamePlace (λ q. Unit {0}) a.pairs x y → is_some x ≡ is_some y
  some_place None None neither = refl
  some_place x y (both xs q ys e f) = refl

  held_reason : (k n align : ℕ) → reason_held k n align s ≡ reason_held k n align t
  held_reason k n align =
      let units = same_units s t a.pairs a.limit a.left_blocks a.right_blocks in
      let free = ap sum (same_free_sizes s t a.pairs a.limit a.left_blocks a.right_blocks) in
      ap₂ (λ b h. if b then Some Nodes else if h then None else Some (lack n (total s.blocks) (sum (free_sizes s.blocks)))) (same_short s t a.pairs a.limit a.left_blocks a.right_blocks k)
      (some_place _ _ (held_places n align))
      ∙ ap₂ (λ m f. if is_short_of k t then Some Nodes else if is_some (holding_place n align 0 t.blocks) then None else Some (lack n m f)) units free

  -- making room
  runs_same : (want : ℕ) → IsSameSplit a.pairs (cheapest want s.blocks) (cheapest want t.blocks)
  runs_same want = subst₂ (λ x y. IsSameSplit a.pairs (cheapest want x) (cheapest want y)) (sym a.left_blocks) (sym a.right_blocks) (same_cheapest want a.pairs)

  slid_same : (f k b : List Pair) → a.pairs ≡ f ++ (k ++ b) → AreSame r g d
      (remakes s (slid (stamp_of_call s) (record { front = lefts f; run = lefts k; back = lefts b }))
      (RoomMade (Some (room.cost_of (lefts k))) (moves (total (lefts f)) (total (lefts f)) (lefts k))))
      (remakes t (slid (stamp_of_call t) (record { front = rights f; run = rights k; back = rights b }))
      (RoomMade (Some (room.cost_of (rights k))) (moves (total (rights f)) (total (rights f)) (rights k))))
  slid_same f k b e =
      let new = pair (sum (free_sizes (lefts k))) (Frees (2 * (s.calls + 1) + 1) (2 * (t.calls + 1) + 1)) in
      record {
        reply = ap₂ (λ c l. RoomMade (Some c) l) (same_cost k)
            (moves_same (total (lefts f)) (total (lefts f)) k (λ q i. subst (IsIn q) (sym e) (in_right q f (k ++ b) (in_left q k b i)))
            ∙ ap (λ n. map (raise_move g d) (moves n n (rights k))) (same_total f));
        state = (same_leaves r d s t a machine.Gone machine.Gone (f ++ (live_pairs k ++ (new ∷ b))) _ _ refl
            (ap₂ (λ x y. lefts f ++ (x ++ y)) (sym (lefts_live k)) refl ∙ sym (map_three left f (live_pairs k) (new ∷ b)))
            (ap₂ (λ x (n : ℕ). rights f ++ (x ++ (machine.block n (machine.Free (stamp_of_call t)) ∷ rights b))) (sym (rights_live k)) (ap sum (sym (same_sizes k)))
            ∙ sym (map_three right f (live_pairs k) (new ∷ b)))
            (λ q i. elim (in_append q f _ i) [
              | inl h ↦ inl (subst (IsIn q) (sym e) (in_left q f (k ++ b) h))
              | inr h ↦ elim (in_append q (live_pairs k) (new ∷ b) h) [
                | inl z ↦ inl (subst (IsIn q) (sym e) (in_right q f (k ++ b) (in_left q k b (in_live q k z))))
                | inr (inl z) ↦ inr (fresh_kinds s.grants t.grants s.calls t.calls q (inr (inr (ap (λ (y : Pair). y.kind) z))))
                | inr (inr z) ↦ inl (subst (IsIn q) (sym e) (in_right q f (k ++ b) (in_right q k b z)))
              ]
            ])).state;
      }

  made_same : (o o' : Option Split) → IsSameSplit a.pairs o o' → AreSame r g d (make_room s o) (make_room t o')
  made_same None None no_split = quiet _ _ refl
  made_same o o' (same_split f k b e) = if_same (AreSame r g d) _ _ _ _ _ _ (ap (λ (c : RoomCost). nat_eq c.ranges 0) (same_cost k))
      (λ z. quiet _ _ (ap (λ c. RoomMade (Some c) []) (same_cost k))) (slid_same f k b e)

  made_by_same : (n : ℕ) (o o' : Option Split) → IsSameSplit a.pairs o o' → AreSame r g d (make_room_by n s o) (make_room_by n t o')
  made_by_same n None None no_split = quiet _ _ refl
  made_by_same n o o' (same_split f k b e) = if_same (AreSame r g d) _ _ _ _ _ _ (ap (λ (c : RoomCost). nat_eq c.ranges 0) (same_cost k)) (λ z. quiet _ _ (ap (λ c. RoomMade (Some c) []) (same_cost k)))
      (record { reply = ap₂ (λ c l. RoomMade (Some c) l) (same_cost k) (run_moves_same n f k b e); state = run_alike r d s t a n f k b e })

  -- a list of the blocks of one side
  both_sides : (find : List machine.Block → Option Split) → IsSameSplit a.pairs (find (lefts a.pairs)) (find (rights a.pairs)) → IsSameSplit a.pairs (find s.blocks) (find t.blocks)
  both_sides find h = subst₂ (λ x y. IsSameSplit a.pairs (find x) (find y)) (sym a.left_blocks) (sym a.right_blocks) h

  -- live ranges beside one another
  sent_kind : (k : Kind) → (is_free (left_tag k) ≡ false → number (left_tag k) ≡ number_with g d (number (right_tag k))) → IsSent (number_with g d) k
  sent_kind (Lives i j) h = h refl
  sent_kind (Frees x y) h = tt

  sent_pairs : AreSent (number_with g d) a.pairs
  sent_pairs q i = sent_kind q.kind (number_back q i)

  beside_same : (f f' : machine.Place → Option LiveRange)
      → ((xs : List Pair) (q : Pair) (ys : List Pair) → ((x : Pair) → IsIn x xs ⊎ IsIn x ys → IsIn x a.pairs)
      → f (record { before = lefts xs; block = left q; after = lefts ys }) ≡ option_map (raise_range g d) (f' (record { before = rights xs; block = right q; after = rights ys })))
      → (o o' : Option machine.Place) → IsSamePlace (λ q. Unit {0}) a.pairs o o' → beside f o ≡ raise g d (beside f' o')
  beside_same f f' same None None neither = refl
  beside_same f f' same o o' (both xs q ys e u) = ap Found (same xs q ys (λ x i. subst (IsIn x) (sym e) (in_parts x xs q ys i)))

  pub same_call : (c : Call) → AreSame r g d (step c s) (step (renumber r c) t)
  same_call (call.Command c) = let o = alike_step r d c s t a in record { reply = ap Answer o.answer; state = o.state }
  same_call (call.Shrink k n) = resize_same k n _ _ _ _ refl (same_placed r d s t a k)
      (λ xs q ys. ap₂ (λ x y. nat_le n q.size && (x || not y)) (same_starts ys) (same_short s t a.pairs a.limit a.left_blocks a.right_blocks 1))
  same_call (call.Grow k n) = resize_same k n _ _ _ _ refl (same_placed r d s t a k) (λ xs q ys. ap (λ f. nat_le q.size n && nat_le n (q.size + f)) (same_free_start ys))
  same_call call.Compact = compact_same
  same_call (call.CompactBy n) = stepped_same n _ _ (both_sides (first_run to_the_end n 0 0) (same_to_the_end n 0 0 a.pairs))
  same_call (call.CompactWithin n from u m) = within_same n _ _ (both_sides (first_run (longest_that (is_within u m)) n from 0) (same_within u m n from 0 a.pairs))
  same_call (call.Offset k) = quiet _ _ (offset_same _ _ (same_placed r d s t a k))
  same_call (call.Refusal n) = quiet _ _ (ap Refusal (reason_same 1 n))
  same_call (call.AllocateTight n) = tight_same n 1
  same_call (call.AllocateTightAligned n align) = tight_same n align
  same_call (call.AllocateAt offset n) = at_same offset n
  same_call (call.RefusalTight n) = quiet _ _ (ap Refusal (held_reason 1 n 1))
  same_call (call.RefusalTightAligned n align) = quiet _ _ (ap Refusal (held_reason (if nat_le align 1 then 1 else 2) n align))
  same_call (call.WouldBegin n align) = quiet _ _ (ap begin_of (alike_step r d (command.Align n align) s t a).answer ∙ begin_raised g d (machine.allocate_aligned n align t).answer)
  same_call (call.MakeRoom n) = made_same _ _ (runs_same (value (up n)))
  same_call (call.MakeRoomBy n align m) =
      made_by_same m _ _ (same_cheapest_by s t a.pairs a.limit a.left_blocks a.right_blocks m (value (up (n + align - 1))) (min align 2))
  same_call (call.RoomCost n) = quiet _ _ (ap plain.RoomCost (same_room_cost a.pairs _ _ (runs_same (value (up n)))))
  same_call (call.RoomCostBy n align m) = quiet _ _ (ap plain.RoomCost (same_room_cost a.pairs _ _ (same_cheapest_by s t a.pairs a.limit a.left_blocks a.right_blocks m (value (up (n + align - 1))) (min align 2))))
  same_call (call.Relocate k) = let o = same_relocated r d s t a _ _ (same_placed r d s t a k) in record { reply = ap Answer o.answer; state = o.state }
  same_call (call.RelocateAligned k align) =
      let o = same_relocated_aligned r d s t a align _ _ (same_placed r d s t a k) in record { reply = ap Answer o.answer; state = o.state }
  same_call (call.Retract n) = if_same (AreSame r g d) _ _ _ _ _ _ (same_can r d s t a n) (λ e. record { reply = refl; state = retracted_alike r d s t a n }) (quiet _ _ refl)
  same_call call.FirstLive = quiet _ _ (ap Found (ap (first_live 0) a.left_blocks ∙ sent_first (number_with g d) 0 a.pairs sent_pairs
      ∙ ap (λ bs. option_map (raise_range g d) (first_live 0 bs)) (sym a.right_blocks)))
  same_call call.LastLive = quiet _ _ (ap Found (ap (last_live 0) a.left_blocks ∙ sent_last (number_with g d) 0 a.pairs sent_pairs
      ∙ ap (λ bs. option_map (raise_range g d) (last_live 0 bs)) (sym a.right_blocks)))
  same_call (call.LiveBefore k) = quiet _ _ (beside_same live_before live_before
      (λ xs q ys i. sent_last (number_with g d) 0 xs (λ x j. sent_pairs x (i x (inl j)))) _ _ (same_placed r d s t a k))
  same_call (call.LiveAfter k) = quiet _ _ (beside_same live_after live_after
      (λ xs q ys i. sent_first (number_with g d) (total (lefts xs) + q.size) ys (λ x j. sent_pairs x (i x (inr j)))
      ∙ ap (λ m. option_map (raise_range g d) (first_live (m + q.size) (rights ys))) (same_total xs)) _ _ (same_placed r d s t a k))
  same_call (call.RefusalAligned n align) = quiet _ _ (ap₂ (λ x y. Refusal (if nat_le align 1 then x else y)) (reason_same 1 n) (reason_same 2 (n + align - 1)))

-- alike states give the same replies to any calls
pub same_replies : (r : ℕ → ℕ) (g d : ℕ) → ((k : ℕ) → r (number_with g d k) ≡ k) → (cs : List Call) (s t : State) → IsAlike r d s t
    → replies cs s ≡ map (raise g d) (replies (map (renumber r) cs) t)
same_replies r g d back [] s t a = refl
same_replies r g d back (c ∷ cs) s t a = let o = same_call r g d back s t a c in ap₂ (λ x xs. x ∷ xs) o.reply (same_replies r g d back cs _ _ o.state)

-- numbers with further grants, and without them
pub number_back_again : (g j k : ℕ) → number_without g j (number_with g j k) ≡ k
number_back_again g j k = search (arith, cases_lt, lt-leb, le-leb, nat_le)
