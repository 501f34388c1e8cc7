use Rattle.offset_allocator.proofs.{Linking.Names.kept_unused, Classes.below_value_up, Classes.down_small, Advice.none_free, Moving.OneStep.least_one, Sound.Fields, Sound.fields_of}
use Rattle.offset_allocator.proofs.{Taken.HasFit, Linking.Places.kept_place, Linking.Places.at_place, Filing.Filed.unlisted}
use Rattle.offset_allocator.proofs.Common.{ℕ, List, None, Some, ◌++◌, ◌∙◌, refl, sym, ap, subst, arith, AreInBins, View, blocks, value, up, length, true≢false, Node}
use Rattle.offset_allocator.proofs.Moving.Gathered.{gathered_filed}
use Rattle.offset_allocator.proofs.Moving.Runs.{none_fits, run_some, some_fits}
use Rattle.offset_allocator.proofs.Moving.Rooms.{first_gone, first_listed, rest_ends, slides, slides_sound}
use Rattle.offset_allocator.proofs.Moving.RoomsBySteps.{IsOpenedBy, class_alone, class_few, found_alone, found_both, found_none, opened_at, opened_short}
use Rattle.offset_allocator.specs.Moving.RoomBySteps.{IsLeastCostBy}
use Rattle.offset_allocator.specs.{Moving.BySteps.stepped, Moving.BySteps.used_up, Names.names_of}
use Rattle.offset_allocator.proofs.AllocatorOf.make_room.Goals.{then-size-eq0-via-then-size-eq0, then-size-eq0-via-else-size-eq0+then-uint_to_float_round_down-class}
use Rattle.offset_allocator.proofs.AllocatorOf.make_room.{Goals.In_ok-run, Given.Over}
use Rattle.offset_allocator.proofs.AllocatorOf.make_room.Goals as goal

pub find_at_or_above-found-requires-clause-classed : goal.find_at_or_above-found-requires-clause-classed
find_at_or_above-found-requires-clause-classed g c = omega (arith, (below_value_up c.args.size (omega arith)).1, c.uint_to_float_round_up-class.ensures.is)

pub float_to_uint-requires : goal.float_to_uint-requires
float_to_uint-requires g c = omega (arith, (below_value_up c.args.size (omega arith)).1, c.uint_to_float_round_up-class.ensures.is)

pub cheapest-requires-clause-alone : goal.cheapest-requires-clause-alone
cheapest-requires-clause-alone g c =
    let f : Fields = fields_of g.T.Tables.cells g.T.Index.NodeIndex.MAX c.self.inside in
    class_alone f c.self.invariant c.args.self.now c.self.view_is c.formed.ensures c.args.size c.uint_to_float_round_up-class.result c.uint_to_float_round_down.result
    c.uint_to_float_round_up-class.ensures.is c.uint_to_float_round_down.ensures.is c.float_to_uint.result 0 c.if-uint_to_float_round_down-class.false c.float_to_uint.ensures.is
    (λ _. none_fits c.args.self.now c.formed.ensures c.args.size c.uint_to_float_round_up-class.result _ c.find_at_or_above-found.result c.uint_to_float_round_up-class.ensures.is
    (ap (λ (u : View). u.bins) c.self.view_is) c.find_at_or_above-found.ensures.smallest (λ e. true≢false (sym e ∙ sym c.is_some.ensures ∙ c.if-is_some.false)))

pub returns-in_err-run-clause-cost : goal.returns-in_err-run-clause-cost
returns-in_err-run-clause-cost g c =
    let f : Fields = fields_of g.T.Tables.cells g.T.Index.NodeIndex.MAX c.self.inside in
    rw c.from_residual.ensures (least_one _ _ None
    (found_none f c.self.invariant c.args.self.now c.self.view_is c.formed.ensures c.args.size c.uint_to_float_round_up-class.result c.uint_to_float_round_down.result
    c.uint_to_float_round_up-class.ensures.is c.uint_to_float_round_down.ensures.is 1 0 c.float_to_uint.result 0 c.if-uint_to_float_round_down-class.false c.float_to_uint.ensures.is refl c.in_err-run.ensures.run))

pub returns-then-is_some-clause-cost : goal.returns-then-is_some-clause-cost
returns-then-is_some-clause-cost g c =
    least_one _ _ (Some _) (found_alone 1 0 c.args.size c.args.self.now c.formed.ensures (omega arith)
    (some_fits c.args.size c.uint_to_float_round_up-class.result c.args.self.now _ c.find_at_or_above-found.result c.uint_to_float_round_up-class.ensures.is
    (ap (λ (u : View). u.bins) c.self.view_is) c.find_at_or_above-found.ensures.smallest (sym c.is_some.ensures ∙ c.if-is_some.true)))

pub returns-then-size-eq0-clause-cost : goal.returns-then-size-eq0-clause-cost
returns-then-size-eq0-clause-cost g c =
    let v : View = c.args.self.now in
    let f : Fields = fields_of g.T.Tables.cells g.T.Index.NodeIndex.MAX c.self.inside in
    let none = none_fits v c.formed.ensures c.args.size c.uint_to_float_round_up-class.result _ c.find_at_or_above-found.result c.uint_to_float_round_up-class.ensures.is
    (ap (λ (u : View). u.bins) c.self.view_is) c.find_at_or_above-found.ensures.smallest (λ e. true≢false (sym e ∙ sym c.is_some.ensures ∙ c.if-is_some.false)) in
    elim c.then-size-eq0.branch [
      | then-size-eq0-via-then-size-eq0 w ↦ λ run r. absurd (run_some run v.blocks r (none_free v c.formed.ensures (subst (λ n. HasFit n v → ⊥) w.if-size-eq0.true none)))
      | then-size-eq0-via-else-size-eq0+then-uint_to_float_round_down-class w ↦
          least_one _ _ None (class_few f c.self.invariant v c.self.view_is c.formed.ensures c.args.size c.uint_to_float_round_up-class.result w.uint_to_float_round_down.result
          c.uint_to_float_round_up-class.ensures.is w.uint_to_float_round_down.ensures.is 1 0 w.if-uint_to_float_round_down-class.true)
    ]

-- the run that the search has found, and its cost
found : (g : Over) (c : In_ok-run g) → IsLeastCostBy 1 (value (up c.args.size)) 0 c.args.self.now.blocks (Some c.in_ok-run.run'.cost)
    × IsOpenedBy 1 (value (up c.args.size)) 0 (blocks (g.T.Tables.cells c.self.inside.store.tables).chain c.self.inside.store.last) c.in_ok-run.run'
found g c =
    found_both (fields_of g.T.Tables.cells g.T.Index.NodeIndex.MAX c.self.inside) c.self.invariant c.args.self.now c.self.view_is c.formed.ensures c.args.size c.uint_to_float_round_up-class.result
    c.uint_to_float_round_down.result c.uint_to_float_round_up-class.ensures.is c.uint_to_float_round_down.ensures.is 1 0 c.float_to_uint.result 0 c.if-uint_to_float_round_down-class.false
    c.float_to_uint.ensures.is refl c.in_ok-run.run' c.in_ok-run.ensures.run

pub returns-then-run-eq0-clause-cost : goal.returns-then-run-eq0-clause-cost
returns-then-run-eq0-clause-cost g c = least_one _ _ (Some c.in_ok-run.run'.cost) (found g (goal.at.returns-then-run-eq0-clause-cost g c).In_ok-run).0

pub size-first-requires : goal.size-first-requires
size-first-requires g c =
    (opened_at (fields_of g.T.Tables.cells g.T.Index.NodeIndex.MAX c.self.inside) c.self.invariant 1 (value (up c.args.size)) 0 c.in_ok-run.run' (found g (goal.at.size-first-requires g c).In_ok-run).1).below

pub remove-requires-clause-listed : goal.remove-requires-clause-listed
remove-requires-clause-listed g c =
    let f : Fields = fields_of g.T.Tables.cells g.T.Index.NodeIndex.MAX c.self.inside in
    let o = (found g (goal.at.remove-requires-clause-listed g c).In_ok-run).1 in
    first_listed f c.self.invariant (value (up c.args.size)) c.in_ok-run.run' o c.if-run-eq0.false c.size-first.ensures.cell

pub to_front-hole-requires-clause-place : goal.to_front-hole-requires-clause-place
to_front-hole-requires-clause-place g c =
    let f : Fields = fields_of g.T.Tables.cells g.T.Index.NodeIndex.MAX c.self.inside in
    let want = value (up c.args.size) in
    let r = c.in_ok-run.run' in
    let o = (found g (goal.at.to_front-hole-requires-clause-place g c).In_ok-run).1 in (
      _,
      o.front,
      o.block,
      o.rest,
      o.back,
      _,
      kept_place c.remove.ensures.chain (opened_at f c.self.invariant 1 want 0 r o),
      o.idle,
      rest_ends f c.self.invariant want r o c.if-run-eq0.false,
      gathered_filed f c.self.invariant o.front o.block o.rest o.back o.is o.idle (λ _. first_gone f c.self.invariant want r o c.if-run-eq0.false c.size-first.ensures.cell c.remove.ensures.lists),
    )

pub push-requires : goal.push-requires
push-requires g c =
    let f : Fields = fields_of g.T.Tables.cells g.T.Index.NodeIndex.MAX c.self.inside in
    let want = value (up c.args.size) in
    let r = c.in_ok-run.run' in
    let o = (found g (goal.at.push-requires g c).In_ok-run).1 in
    let e = c.to_front-hole.ensures.place _ o.front o.block o.rest o.back _ (kept_place c.remove.ensures.chain (opened_at f c.self.invariant 1 want 0 r o)) o.idle
    (rest_ends f c.self.invariant want r o c.if-run-eq0.false) (gathered_filed f c.self.invariant o.front o.block o.rest o.back o.is o.idle (λ _. first_gone f c.self.invariant want r o c.if-run-eq0.false c.size-first.ensures.cell c.remove.ensures.lists)) in
    record {
      binned = c.to_front-hole.ensures.binned;
      named = e.0.below;
      idle = ap (λ (v : Node). v.used) (at_place e.0);
      classed = omega (arith, down_small c.to_front-hole.result.size, c.uint_to_float_round_down-class.ensures.is);
      unlisted = unlisted e.0 _ (subst (λ (ls : List (List ℕ)). AreInBins ((o.front ++ stepped 1 o.rest) ++ o.back) ls) (sym (e.3 refl)) e.4);
    }

pub invariant_of-self-2 : goal.invariant_of-self-2
invariant_of-self-2 g c =
    let f : Fields = fields_of g.T.Tables.cells g.T.Index.NodeIndex.MAX c.self.inside in
    let want = value (up c.args.size) in
    let r = c.in_ok-run.run' in
    let o = (found g (goal.at.invariant_of-self-2 g c).In_ok-run).1 in
    let e = c.to_front-hole.ensures.place _ o.front o.block o.rest o.back _ (kept_place c.remove.ensures.chain (opened_at f c.self.invariant 1 want 0 r o)) o.idle
    (rest_ends f c.self.invariant want r o c.if-run-eq0.false) (gathered_filed f c.self.invariant o.front o.block o.rest o.back o.is o.idle (λ _. first_gone f c.self.invariant want r o c.if-run-eq0.false c.size-first.ensures.cell c.remove.ensures.lists)) in
    slides_sound f c.self.invariant want r o c.if-run-eq0.false (g.T.Tables.cells c.push.new.store.tables) c.push.new.store.last c.push.new.store.spare_count c.to_front-hole.result.name
    c.to_front-hole.result.size (kept_place c.push.ensures.chain e.0) e.1 c.push.new.store.top_mask c.push.ensures.binned (rw (c.uint_to_float_round_down-class.ensures.is, e.3 refl) at c.push.ensures.lists) e.4 0

pub returns : goal.returns
returns g c =
    let f : Fields = fields_of g.T.Tables.cells g.T.Index.NodeIndex.MAX c.self.inside in
    let want = value (up c.args.size) in
    let r = c.in_ok-run.run' in
    let o = (found g (goal.at.returns g c).In_ok-run).1 in
    let e = c.to_front-hole.ensures.place _ o.front o.block o.rest o.back _ (kept_place c.remove.ensures.chain (opened_at f c.self.invariant 1 want 0 r o)) o.idle
    (rest_ends f c.self.invariant want r o c.if-run-eq0.false) (gathered_filed f c.self.invariant o.front o.block o.rest o.back o.is o.idle (λ _. first_gone f c.self.invariant want r o c.if-run-eq0.false c.size-first.ensures.cell c.remove.ensures.lists)) in
    let d = slides f c.self.invariant want r o c.if-run-eq0.false (g.T.Tables.cells c.push.new.store.tables) c.push.new.store.last c.push.new.store.spare_count c.to_front-hole.result.name
    c.to_front-hole.result.size (kept_place c.push.ensures.chain e.0) e.1 c.push.new.store.top_mask c.push.ensures.binned (rw (c.uint_to_float_round_down-class.ensures.is, e.3 refl) at c.push.ensures.lists) e.4
    c.push.new.store.accesses c.args.size refl c.self.view_is c.to_front-hole.ensures.name
    (kept_unused c.push.ensures.chain ∙ e.5 ∙ ap (λ (u : List ℕ). u ++ names_of (used_up 1 o.rest)) (kept_unused c.remove.ensures.chain)) e.2 in
    let all = ap (λ (u : View). length u.blocks) c.self.view_is in
    let old = ap (λ (u : View). u.accesses) c.self.view_is in
    record {
      cost = least_one _ _ (Some c.in_ok-run.run'.cost) (found g (goal.at.returns g c).In_ok-run).0;
      step = d.0;
      live = d.1;
      sizes = d.2;
      granted = λ _. d.3;
      accesses = (
        omega (
          arith,
          old,
          c.find_at_or_above-found.ensures.accesses,
          c.cheapest.ensures.accesses.0,
          c.size-first.ensures.accesses,
          c.remove.ensures.accesses.0,
          c.to_front-hole.ensures.accesses_min,
          c.push.ensures.accesses.0,
        ),
        omega (
          arith,
          opened_short f c.self.invariant 1 want 0 r o,
          c.if-run-eq0.false,
          all,
          old,
          e.6,
          c.find_at_or_above-found.ensures.accesses,
          c.cheapest.ensures.accesses.1,
          c.size-first.ensures.accesses,
          c.remove.ensures.accesses.1,
          c.push.ensures.accesses.1,
        ),
      );
    }
