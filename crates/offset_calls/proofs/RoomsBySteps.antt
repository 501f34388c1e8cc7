-- Making room by whole steps: what is left agrees with the plain machine, and the cost and the moves are the same.
use Rattle.offset_allocator.specs.{Classes.value, Classes.up, Moving.Room.IsAtMost, Moving.Room.cost_of, Moving.RoomBySteps.IsLeastCostBy, Moving.RoomBySteps.MakesRoomBy, Moving.RoomBySteps.Serves}
use Rattle.offset_allocator.specs.{Moving.RoomBySteps.SlidesRunBy, Moving.RoomBySteps.names_short}
use Rattle.offset_allocator.specs.declared.moves.room.RoomCost.{RoomCost}
use Rattle.offset_allocator.specs.Moving.Compacting as named_moves
use Rattle.offset_calls.proofs.Common.{◌≡◌, ℕ, ◌+◌, ◌-◌, ◌≤◌, Bool, List, [], map, length, Option, Some, None, option_map, nat_eq, if◌then◌else◌, refl, sym, ap, ap₂, subst, ◌∙◌, inl, inr, arith}
use Rattle.offset_calls.proofs.Common.{eq-eqb, ne_eqb, cases_lt, View, Handle, IsWellFormed, kept_name, State, Move, Reply, Outcome, AreNumbered, replies_only, units_needed, blocks_needed}
use Rattle.std.specs.Prelude.{min}
use Rattle.std.proofs.lemmas.Bool.{cond_both}
use Rattle.offset_script.specs.Agreement.{HasBlocksOf, IsAtState}
use Rattle.offset_script.proofs.{Labels.tags, Tests.same_some, Well.IsWell, Well.well_quiet}
use Rattle.offset_script.specs.Totals.{live}
use Rattle.offset_script.specs.Machine as machine
use Rattle.offset_calls.specs.{Calls.make_room_by, Calls.moves_of_run, Calls.RoomMade, Room.Split, RoomBySteps.blocks_short, RoomBySteps.cheapest_by, RoomBySteps.cheapest_that}
use Rattle.offset_calls.specs.{RoomBySteps.serves, Slides.Notes, Slides.slid_reply, Stepped.slid_run, Steps.TakesSlide}
use Rattle.offset_calls.specs.declared.calls.Call.TheVariants as call
use Rattle.offset_calls.specs.Room as plain
use Rattle.offset_calls.proofs.Rooms.{IsFound, back_live, found_there, none_numbered, noted, stays, tags_with_names, with_name}
use Rattle.offset_calls.proofs.Runs.{IsChosenOf, IsLabelledRun}
use Rattle.offset_calls.proofs.RunsBySteps.{IsBest, best, found_chosen, room_cost_by_is, slid_by_is}
use Rattle.offset_calls.proofs.Stepped.{IsSlidRun, run_agrees, run_moves, spent_end, well_slid}

-- ---- every state stays well-formed

found_by : (m want short : ℕ) (bs : List machine.Block) (p : Split) → cheapest_that (serves m want short) bs ≡ Some p → IsFound bs p
found_by m want short bs p e =
    let ls = map with_name bs in
    let same : cheapest_that (serves m want short) (tags ls) ≡ Some p = ap (cheapest_that (serves m want short)) (tags_with_names bs) ∙ e in
    let b : IsBest (serves m want short) ls (Some p) = subst (IsBest (serves m want short) ls) same (best (serves m want short) ls) in
    found_there bs p b.0 b.1 b.2 b.3 b.4 (found_chosen m want short ls p b)

pub well_room_by : (s : State) → IsWell s → (m want spare : ℕ) → IsWell (make_room_by m s (cheapest_by m want spare s)).state
well_room_by s w m want spare = go (cheapest_by m want spare s) refl
  where
    go : (o : Option Split) → cheapest_by m want spare s ≡ o → IsWell (make_room_by m s o).state
    go None e = well_quiet s w machine.Gone
    go (Some p) e = cond_both (nat_eq (length (live p.run)) 0) _ _ (λ (o : Outcome). IsWell o.state) (λ z. well_quiet s w machine.Gone) (λ z. slid)
      where
        there : IsFound s.blocks p
        there = found_by m want (blocks_short spare s.limit (length s.blocks)) s.blocks p e

        slid : IsWell (slid_run m s p)
        slid = well_slid s w m p there.is there.begins (back_live s w p there) (inl (spent_end m p.run there.ends))

-- ---- the step

module _ (v w : View) (hs left : List (Option Handle)) (r : Reply) (s : State) (formed : IsWellFormed w) (ws : IsWell s) (p : IsAtState v hs s) (e : left ≡ hs) where
  -- the machine has this reply, and leaves what the allocator does
  abbrev Agrees : Outcome → Type 0
  Agrees o = (r ≡ o.reply) × IsAtState w left o.state

  -- a run slides, or has nothing to move
  abbrev made_if : ℕ → Split → Bool → Outcome
  made_if m q x =
      if x then replies_only s (RoomMade (Some (plain.cost_of q.run)) [])
      else record { state = slid_run m s q; reply = RoomMade (Some (plain.cost_of q.run)) (moves_of_run m q) }

  module _ (m want spare : ℕ) (xs : List named_moves.Move) (ms : List Move) (a : AreNumbered hs xs ms) where
    -- a run that slides is one that none costs less than, and each later one more
    chosen : (c : RoomCost) → IsLeastCostBy m want (names_short spare v) v.blocks (Some c) → (h : SlidesRunBy m want (names_short spare v) v w) → c ≡ cost_of h.run
        → IsChosenOf (Serves m want (names_short spare v)) v.blocks h.front h.run h.back
    chosen c l h cost = record {
      is = h.is;
      begins = h.begins;
      ends = h.ends;
      serves = h.serves;
      least = λ other r m. subst (λ d. IsAtMost d (cost_of other)) cost (l.1 other r m);
      later = h.later;
    }

    made : (c : Option RoomCost) → IsLeastCostBy m want (names_short spare v) v.blocks c → MakesRoomBy Notes m want (names_short spare v) v [] c w xs → r ≡ RoomMade c ms
        → (o : Option Split) → cheapest_by m want spare s ≡ o → c ≡ option_map (λ (p : Split). plain.cost_of p.run) o → Agrees (make_room_by m s o)
    made None l t is None f k = stays v w hs left r s formed ws p e _ t.0 (is ∙ ap (RoomMade None) (none_numbered hs xs ms t.1 a))
    made None l t is (Some q) f k = absurd (cc)
    made (Some c) l t is None f k = absurd (cc)
    made (Some c) l t is (Some q) f k = elim (cases_lt 0 c.ranges) [ inr z ↦ none (omega (arith, z)) | inl z ↦ some z ]
      where
        own : c ≡ plain.cost_of q.run
        own = cc

        none : c.ranges ≡ 0 → Agrees (make_room_by m s (Some q))
        none z =
            let u = t.0 z in
            subst (λ x. Agrees (made_if m q x)) (sym (eq-eqb (length (live q.run)) 0 (omega (arith, z, ap (λ (d : RoomCost). d.ranges) own))))
            (stays v w hs left r s formed ws p e _ u.0 (is ∙ ap₂ (λ d l. RoomMade (Some d) l) own (none_numbered hs xs ms u.1 a)))

        some : 1 ≤ c.ranges → Agrees (make_room_by m s (Some q))
        some z =
            let u = t.1 z in
            let h : SlidesRunBy m want (names_short spare v) v w = u.0 in
            let k : IsLabelledRun (cheapest_by m want spare s) p.agrees.labels h.front h.run h.back =
            slid_by_is v (kept_name hs) s p.formed ws p.agrees m want spare h.front h.run h.back (chosen c l h u.1) in
            let at : Split = record { front = tags k.f; run = tags k.r; back = tags k.b } in
            let there : at ≡ q = same_some _ _ (sym k.found ∙ f) in
            let slides : IsSlidRun m v w h.front h.run h.back = record { is = h.is; name = h.name; view = h.view } in
            let agrees : HasBlocksOf w (kept_name hs) (slid_run m s at) =
            run_agrees v hs s p.formed ws p.agrees m w formed h.front h.run h.back slides k.f k.r k.b k.is k.front_is k.run_is k.back_is in
            let moved : ms ≡ moves_of_run m at =
            run_moves v hs s p.formed ws p.agrees m w formed h.front h.run h.back slides k.f k.r k.b k.is k.front_is k.run_is k.back_is ms
            (subst (λ l. AreNumbered hs l ms) (noted _ [] xs u.2) a) in
            subst (λ x. Agrees (made_if m q x)) (sym (ne_eqb (length (live q.run)) 0 (λ n. omega (arith, z, n, ap (λ (d : RoomCost). d.ranges) own)))) (
              is ∙ ap₂ (λ d l. RoomMade (Some d) l) own (moved ∙ ap (moves_of_run m) there),
              subst (λ l. IsAtState w l (slid_run m s q)) (sym e) (subst (λ q. IsAtState w hs (slid_run m s q)) there (record { formed = formed; agrees = agrees; grants = p.grants })),
            )

  pub room_by_taken : (n align m : ℕ) → TakesSlide (call.MakeRoomBy n align m) v hs w r
      → Agrees (make_room_by m s (cheapest_by m (value (up (n + align - 1))) (min align 2) s))
  room_by_taken n align m t =
      let want = value (up (units_needed n align)) in
      made m want (blocks_needed align) t.1 t.3 t.4 t.2.0 t.2.1 t.2.2 (t.5 ∙ ap (λ o. slid_reply o t.3) t.2.3) (cheapest_by m want (blocks_needed align) s) refl
      (room_cost_by_is v (kept_name hs) s p.formed ws p.agrees m want (blocks_needed align) t.2.0 t.2.1)
