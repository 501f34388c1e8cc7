-- Making room: what is left agrees with the plain machine, and the cost and the moves are the same.
use Rattle.offset_allocator.specs.{Relations.SameState, Moving.Room.SlidesRun, Moving.Room.MakesRoom, Moving.Room.IsLeastCost, Moving.Room.cost_of}
use Rattle.offset_calls.proofs.Common.{◌≡◌, ℕ, suc, ◌+◌, ◌<◌, ◌≤◌, ◌&&◌, Bool, true, false, not, List, [], ◌∷◌, ◌++◌, map, length, sum, Option, Some, None, option_map, nat_eq, if◌then◌else◌, drop}
use Rattle.offset_calls.proofs.Common.{refl, sym, ap, ap₂, subst, ◌∙◌, inl, inr, arith, eq-eqb, ne_eqb, length-append, append_assoc, map-append, cases_eq, cases_lt, true≢false, false≢true, Block}
use Rattle.offset_calls.proofs.Common.{View, Handle, IsWellFormed, AreCoalesced, SameSpace, FoldsTo, kept_name, Tag, Live, Free, State, is_free, total, units, stamp_of_call, stamp_of_padding, replace}
use Rattle.offset_calls.proofs.Common.{Move, Reply, Outcome, moves, AreNumbered, replies_only}
use Rattle.std.proofs.lemmas.Bool.{cond_both}
use Rattle.offset_allocator.specs.declared.moves.room.RoomCost.{RoomCost}
use Rattle.offset_allocator.proofs.Views.ViewApart.{left_false, right_false}
use Rattle.offset_allocator.proofs.Views.ViewApart as named_apart
use Rattle.offset_script.proofs.{Agreed.agrees_but, Agreed.agrees_quiet, Agreed.agrees_replaced, Agreed.name_replaced, Ends.free_sizes_labels, Ends.total_units, Ends.name_append, Ends.or_none}
use Rattle.offset_script.proofs.{Labels.names, Labels.tags, Labels.map_three, Labels.AreRising, Members.IsIn, Members.in_left, Members.in_right, Well.IsWell, Well.well_quiet, Well.well_leaves}
use Rattle.offset_script.specs.Agreement.{Label, by_name, by_tag, name_of, HasBlocksOf, IsAtState}
use Rattle.offset_script.proofs.Lists.{AreApart, apart_append, apart_parts, count, count-append, ends_free, starts_free}
use Rattle.offset_script.specs.Totals.{live}
use Rattle.offset_calls.specs.{Calls.make_room, Calls.remakes, Calls.RoomMade, Room.Split, Room.cheapest, Room.room_cost, Room.slid, Slides.Notes, Slides.slid_reply, Steps.TakesSlide}
use Rattle.offset_allocator.specs.Classes.{value, up}
use Rattle.offset_calls.specs.declared.calls.Call.TheVariants as call
use Rattle.offset_calls.specs.Room as plain
use Rattle.offset_calls.proofs.Compacted.{count_live, length_live, apart_live, ends_of_live, live_labels, live_names, live_tags, live_name_of, moves_agree, one_number}
use Rattle.offset_calls.proofs.Runs.{IsChosen, IsChosenOf, IsBest, IsLabelledRun, best, chosen_is, cost_is, cost_same, ends_free_is}
use Rattle.offset_allocator.specs.Moving.Compacting as named_moves
use Rattle.offset_allocator.specs.View as named
use Rattle.offset_script.specs.Machine as machine

-- ---- every state stays well-formed

-- a run that is found in a list
pub record IsFound (bs : List machine.Block) (p : Split) : Type 0 where
  pub is : bs ≡ p.front ++ (p.run ++ p.back)
  pub begins : starts_free p.run ≡ true
  pub ends : ends_free p.run ≡ true

-- a block with any name
abbrev pub with_name : machine.Block → Label
with_name b = record { name = 0; size = b.size; tag = b.tag }

pub tags_with_names : (bs : List machine.Block) → tags (map with_name bs) ≡ bs
tags_with_names [] = refl
tags_with_names (b ∷ bs) = ap (λ l. b ∷ l) (tags_with_names bs)

starts_tags : (ls : List Label) → named.starts_free (names ls) ≡ true → starts_free (tags ls) ≡ true
starts_tags [] e = e
starts_tags (l ∷ ls) e = free (is_free l.tag) e
  where
    free : (x : Bool) → not (not x) ≡ true → x ≡ true
    free true e = refl
    free false e = e

ends_tags : (ls : List Label) → named_apart.ends_free (names ls) ≡ true → ends_free (tags ls) ≡ true
ends_tags [] e = e
ends_tags (l ∷ []) e = free (is_free l.tag) e
  where
    free : (x : Bool) → not (not x) ≡ true → x ≡ true
    free true e = refl
    free false e = e
ends_tags (l ∷ m ∷ ls) e = ends_tags (m ∷ ls) e

-- a run that none costs less than, by its labels, is found
pub found_there : {Serves : List Block → Type 0} (bs : List machine.Block) (p : Split) (f r b : List Label) → map with_name bs ≡ f ++ (r ++ b) → p ≡ record { front = tags f; run = tags r; back = tags b }
    → IsChosenOf Serves (names (map with_name bs)) (names f) (names r) (names b) → IsFound bs p
found_there bs p f r b is e h = subst (IsFound bs) (sym e) (record {
  is = sym (tags_with_names bs) ∙ ap tags is ∙ map_three by_tag f r b;
  begins = starts_tags r h.begins;
  ends = ends_tags r (ends_free_is (names r) h.begins h.ends);
})

found_run : (want : ℕ) (bs : List machine.Block) (p : Split) → cheapest want bs ≡ Some p → IsFound bs p
found_run want bs p e =
    let ls = map with_name bs in
    let same : cheapest want (tags ls) ≡ Some p = ap (cheapest want) (tags_with_names bs) ∙ e in
    let b : IsBest want ls (Some p) = subst (IsBest want ls) same (best want ls) in
    found_there bs p b.0 b.1 b.2 b.3 b.4 b.5

-- a run that starts free has a free block
some_free : (bs : List machine.Block) → starts_free bs ≡ true → 1 ≤ length (machine.free_sizes bs)
some_free [] e = absurd (false≢true e)
some_free (b ∷ bs) e = subst (λ x. 1 ≤ length (if x then b.size ∷ machine.free_sizes bs else machine.free_sizes bs)) (sym e) (omega arith)

starts_append : (xs ys : List machine.Block) → starts_free xs ≡ true → starts_free (xs ++ ys) ≡ true
starts_append [] ys e = absurd (false≢true e)
starts_append (x ∷ xs) ys e = e

-- what comes after it starts live
pub back_live : (s : State) → IsWell s → (p : Split) → IsFound s.blocks p → starts_free p.back ≡ false
back_live s w p f =
    let rest = apart_parts p.run p.back (apart_parts p.front (p.run ++ p.back) (subst AreApart f.is w.apart)).1 in
    right_false (ends_free p.run) (starts_free p.back) rest.2 f.ends

well_slid : (s : State) → IsWell s → (p : Split) → IsFound s.blocks p → IsWell (machine.leaves s (slid (stamp_of_call s) p) machine.Freed).state
well_slid s w p f =
    let free : machine.Block = machine.block (sum (machine.free_sizes p.run)) (Free (stamp_of_call s)) in
    let inner = live p.run ++ (free ∷ p.back) in
    let long : length (slid (stamp_of_call s) p) ≡ length p.front + (length (live p.run) + (1 + length p.back)) =
    omega (arith, length-append p.front inner, length-append (live p.run) (free ∷ p.back)) in
    let old : length s.blocks ≡ length p.front + (length p.run + length p.back) =
    ap (λ (l : List machine.Block). length l) f.is ∙ length-append p.front (p.run ++ p.back) ∙ ap (λ n. length p.front + n) (length-append p.run p.back) in
    let parts = apart_parts p.front (p.run ++ p.back) (subst AreApart f.is w.apart) in
    let rest = apart_parts p.run p.back parts.1 in
    let front_live : ends_free p.front ≡ false = left_false (ends_free p.front) (starts_free (p.run ++ p.back)) parts.2 (starts_append p.run p.back f.begins) in
    let apart_inner = apart_append (live p.run) (free ∷ p.back) (apart_live p.run) (back_live s w p f, rest.1) (ap (λ x. x && true) (ends_of_live p.run)) in
    well_leaves s w (slid (stamp_of_call s) p) machine.Freed (omega (arith, long)) (omega (arith, long, old, w.room, length_live p.run, some_free p.run f.begins))
    (apart_append p.front inner parts.0 apart_inner (ap (λ x. x && starts_free inner) front_live))
    (λ t. omega (
      arith,
      count-append t p.front inner,
      count-append t (live p.run) (free ∷ p.back),
      count_live t p.run,
      ap (count t) f.is,
      count-append t p.front (p.run ++ p.back),
      count-append t p.run p.back,
    ))

pub well_room : (s : State) → IsWell s → (want : ℕ) (o : Option Split) → cheapest want s.blocks ≡ o → IsWell (make_room s o).state
well_room s w want None e = well_quiet s w machine.Gone
well_room s w want (Some p) e =
    cond_both (nat_eq (length (live p.run)) 0) _ _ (λ (o : Outcome). IsWell o.state) (λ z. well_quiet s w machine.Gone) (λ z. well_slid s w p (found_run want s.blocks p e))

-- ---- what is left

-- the stamp of the free block after live ones
rises_live : (t : ℕ) (ls : List Label) (m : Label) → t ≤ machine.stamp m.tag → AreRising t (live_labels ls ++ m ∷ [])
rises_live t [] m l = (λ e. tt, λ e. (l, tt))
rises_live t (x ∷ ls) m l = go (is_free x.tag) refl (rises_live t ls m l)
  where
    go : (b : Bool) → is_free x.tag ≡ b → AreRising t (live_labels ls ++ m ∷ []) → AreRising t ((if b then live_labels ls else x ∷ live_labels ls) ++ m ∷ [])
    go true e h = h
    go false e h = (λ f. h, λ f. absurd (true≢false (sym f ∙ e)))

-- moves that are noted
pub noted : (ms acc xs : List named_moves.Move) → FoldsTo Notes acc ms xs → xs ≡ acc ++ ms
noted [] acc xs h = sym h ∙ sym (Rattle.offset_calls.proofs.Common.append-nil acc)
noted (m ∷ ms) acc xs h = noted ms h.0 xs h.2 ∙ ap (λ l. l ++ ms) h.1 ∙ append_assoc acc (m ∷ []) ms

pub none_numbered : (handles : List (Option Handle)) (xs : List named_moves.Move) (ms : List Move) → xs ≡ [] → AreNumbered handles xs ms → ms ≡ []
none_numbered handles [] [] e a = refl
none_numbered handles [] (m ∷ ms) e a = absurd a
none_numbered handles (x ∷ xs) ms e a = absurd (cc)

module _ (v : View) (hs : List (Option Handle)) (s : State) (w : IsWellFormed v) (ws : IsWell s) (g : HasBlocksOf v (kept_name hs) s) where
  blocks_apart : AreCoalesced (names g.labels)
  blocks_apart = subst AreCoalesced g.view w.apart

  -- a run that slides is the one that the machine finds
  module _ (u : View) (w' : IsWellFormed u) (want : ℕ) (c : RoomCost) (least : IsLeastCost want v.blocks (Some c)) (h : SlidesRun want v u) (cost : c ≡ cost_of h.run) where
    chosen : IsChosen want (names g.labels) h.front h.run h.back
    chosen = subst (λ l. IsChosen want l h.front h.run h.back) g.view (record {
      is = h.is;
      begins = h.begins;
      ends = h.ends;
      serves = h.serves;
      least = λ other r m. subst (λ d. Rattle.offset_allocator.specs.Moving.Room.IsAtMost d (cost_of other)) cost (least.1 other r m);
      later = h.later;
    })

    pub labelled_run : IsLabelledRun (cheapest want (tags g.labels)) g.labels h.front h.run h.back
    labelled_run = chosen_is want g.labels blocks_apart h.front h.run h.back chosen

    abbrev f : List Label
    f = labelled_run.f

    abbrev r : List Label
    r = labelled_run.r

    abbrev b : List Label
    b = labelled_run.b

    abbrev pub split_at : Split
    split_at = record { front = tags f; run = tags r; back = tags b }

    pub found_at : cheapest want s.blocks ≡ Some split_at
    found_at = ap (cheapest want) g.state ∙ labelled_run.found

    abbrev free : Label
    free = record { name = h.name; size = sum (named.free_sizes h.run); tag = Free (stamp_of_call s) }

    abbrev new : List Label
    new = live_labels r ++ free ∷ []

    new_names : names new ≡ named_moves.live h.run ++ named.free_block h.name (sum (named.free_sizes h.run)) ∷ []
    new_names = map-append by_name (live_labels r) (free ∷ []) ∙ ap (λ l. l ++ by_name free ∷ []) (live_names r ∙ ap named_moves.live labelled_run.run_is)

    same : SameSpace (replace v (names f) (names r) (names new) (names b)) u
    same = rw (labelled_run.front_is, labelled_run.run_is, new_names, labelled_run.back_is) h.view

    sizes : sum (machine.free_sizes (tags r)) ≡ sum (named.free_sizes h.run)
    sizes = ap sum (free_sizes_labels r ∙ ap named.free_sizes labelled_run.run_is)

    new_tags : tags new ≡ live (tags r) ++ machine.block (sum (machine.free_sizes (tags r))) (Free (stamp_of_call s)) ∷ []
    new_tags = map-append by_tag (live_labels r) (free ∷ []) ∙ ap₂ (λ l (n : ℕ). l ++ machine.block n (Free (stamp_of_call s)) ∷ []) (live_tags r) (sym sizes)

    state : slid (stamp_of_call s) split_at ≡ tags (f ++ (new ++ b))
    state = ap (λ l. tags f ++ l) (sym (append_assoc (live (tags r)) (machine.block (sum (machine.free_sizes (tags r))) (Free (stamp_of_call s)) ∷ []) (tags b)))
        ∙ sym (map_three by_tag f new b ∙ ap (λ l. tags f ++ (l ++ tags b)) new_tags)

    same_names : (j : ℕ) → name_of j r ≡ name_of j new
    same_names j = search (arith, live_name_of, or_none, name_append)

    pub slid_agrees : HasBlocksOf u (kept_name hs) (machine.leaves s (slid (stamp_of_call s) split_at) machine.Freed).state
    slid_agrees = agrees_replaced v (kept_name hs) s w ws g u w' v.size f r new b labelled_run.is same
        (machine.leaves s (slid (stamp_of_call s) split_at) machine.Freed).state refl state (rises_live (stamp_of_padding s) r free (omega arith)) (kept_name hs)
        (λ j. g.handles j ∙ ap (name_of j) labelled_run.is ∙ name_replaced j f r new b (same_names j))

    in_run : (l : Label) → IsIn l r → IsIn l g.labels
    in_run l i = subst (IsIn l) (sym labelled_run.is) (in_right l f (r ++ b) (in_left l r b i))

    at : units h.front ≡ total (tags f)
    at = sym (total_units f ∙ ap units labelled_run.front_is)

    pub slid_moves : (ms : List Move) → AreNumbered hs (named_moves.moves (units h.front) (units h.front) h.run) ms → ms ≡ moves (total (tags f)) (total (tags f)) (tags r)
    slid_moves ms a = moves_agree hs (total (tags f)) (total (tags f)) r ms (λ l i k t j e. one_number v hs s w ws g l (in_run l i) k t j e)
        (rw (← at, labelled_run.run_is) a)

    slid_some : 1 ≤ c.ranges → nat_eq (length (live (tags r))) 0 ≡ false
    slid_some l = ne_eqb (length (live (tags r))) 0 (λ z. omega (
      arith,
      l,
      z,
      ap (λ (d : RoomCost). d.ranges) cost,
      ap (λ (d : RoomCost). d.ranges) (cost_same r),
      ap (λ bs. (cost_of bs).ranges) labelled_run.run_is,
    ))

    -- it slides
    pub made_is : 1 ≤ c.ranges → make_room s (Some split_at)
        ≡ remakes s (slid (stamp_of_call s) split_at) (RoomMade (Some (plain.cost_of (tags r))) (moves (total (tags f)) (total (tags f)) (tags r)))
    made_is l = ap (λ x. if x then replies_only s (RoomMade (Some (plain.cost_of (tags r))) [])
        else remakes s (slid (stamp_of_call s) split_at) (RoomMade (Some (plain.cost_of (tags r))) (moves (total (tags f)) (total (tags f)) (tags r)))) (slid_some l)

    pub slid_cost : c ≡ plain.cost_of (tags r)
    slid_cost = cost ∙ sym (cost_same r ∙ ap cost_of labelled_run.run_is)

-- ---- the step

module _ (v w : View) (hs left : List (Option Handle)) (r : Reply) (s : State) (formed : IsWellFormed w) (ws : IsWell s) (p : IsAtState v hs s) (e : left ≡ hs) where
  -- the machine has this reply, and leaves what the allocator does
  abbrev pub Agrees : Outcome → Type 0
  Agrees o = (r ≡ o.reply) × IsAtState w left o.state

  -- where nothing changes
  pub stays : (x : Reply) → SameState v w → r ≡ x → Agrees (replies_only s x)
  stays x same is = (
    is,
    subst (λ l. IsAtState w l (replies_only s x).state) (sym e)
        (record { formed = formed; agrees = agrees_but v w (kept_name hs) _ same (agrees_quiet v (kept_name hs) s p.agrees machine.Gone); grants = p.grants }),
  )

  pub room_cost_is : (want : ℕ) (c : Option RoomCost) → IsLeastCost want v.blocks c → c ≡ room_cost want s.blocks
  room_cost_is want c l = cost_is want p.agrees.labels c (subst (λ bs. IsLeastCost want bs c) p.agrees.view l) ∙ ap (room_cost want) (sym p.agrees.state)

  module _ (want : ℕ) (xs : List named_moves.Move) (ms : List Move) (a : AreNumbered hs xs ms) where
    made : (c : Option RoomCost) → IsLeastCost want v.blocks c → MakesRoom Notes want v [] c w xs → r ≡ RoomMade c ms → (o : Option Split) → cheapest want s.blocks ≡ o
        → c ≡ option_map (λ (p : Split). plain.cost_of p.run) o → Agrees (make_room s o)
    made None l m is None f k = stays _ m.0 (is ∙ ap (RoomMade None) (none_numbered hs xs ms m.1 a))
    made None l m is (Some q) f k = absurd (cc)
    made (Some c) l m is None f k = absurd (cc)
    made (Some c) l m is (Some q) f k = elim (cases_lt 0 c.ranges) [ inr z ↦ none (omega (arith, z)) | inl z ↦ some z ]
      where
        own : c ≡ plain.cost_of q.run
        own = cc

        none : c.ranges ≡ 0 → Agrees (make_room s (Some q))
        none z =
            let t = m.0 z in
            subst (λ x. Agrees (if x then replies_only s (RoomMade (Some (plain.cost_of q.run)) [])
            else remakes s (slid (stamp_of_call s) q) (RoomMade (Some (plain.cost_of q.run)) (moves (total q.front) (total q.front) q.run))))
            (sym (eq-eqb (length (live q.run)) 0 (omega (arith, z, ap (λ (d : RoomCost). d.ranges) own))))
            (stays _ t.0 (is ∙ ap₂ (λ d l. RoomMade (Some d) l) own (none_numbered hs xs ms t.1 a)))

        some : 1 ≤ c.ranges → Agrees (make_room s (Some q))
        some z =
            let t = m.1 z in
            let at = split_at v hs s p.formed ws p.agrees w formed want c l t.0 t.1 in
            let there : Some at ≡ Some q = sym (found_at v hs s p.formed ws p.agrees w formed want c l t.0 t.1) ∙ f in
            let moved = slid_moves v hs s p.formed ws p.agrees w formed want c l t.0 t.1 ms (subst (λ k. AreNumbered hs k ms) (noted _ [] xs t.2) a) in
            let agrees = slid_agrees v hs s p.formed ws p.agrees w formed want c l t.0 t.1 in
            subst (λ o. Agrees (make_room s o)) there (subst Agrees (sym (made_is v hs s p.formed ws p.agrees w formed want c l t.0 t.1 z)) (
              is ∙ ap₂ (λ d k. RoomMade (Some d) k) (slid_cost v hs s p.formed ws p.agrees w formed want c l t.0 t.1) moved,
              subst (λ k. IsAtState w k (machine.leaves s (slid (stamp_of_call s) at) machine.Freed).state) (sym e) (record { formed = formed; agrees = agrees; grants = p.grants }),
            ))

  pub room_taken : (n : ℕ) → TakesSlide (call.MakeRoom n) v hs w r → Agrees (make_room s (cheapest (value (up n)) s.blocks))
  room_taken n t =
      let want = value (up n) in
      made want t.1 t.3 t.4 t.2.0 t.2.1 t.2.2 (t.5 ∙ ap (λ o. slid_reply o t.3) t.2.3) (cheapest want s.blocks) refl (room_cost_is want t.2.0 t.2.1)
