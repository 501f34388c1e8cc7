use Rattle.offset_allocator.proofs.{Classes.below_value_up, Advice.none_free, Sound.Fields, Sound.fields_of, Taken.HasFit, Moving.OneStep.least_one}
use Rattle.offset_allocator.proofs.Common.{◌∙◌, None, Some, true≢false, refl, sym, ap, subst, arith, View}
use Rattle.offset_allocator.proofs.Moving.Runs.{none_fits, run_some, some_fits}
use Rattle.offset_allocator.proofs.Moving.RoomsBySteps.{class_alone, class_few, found_alone, found_cost, found_none}
use Rattle.offset_allocator.proofs.moves.room.room_cost_counted.Goals.{then-size-eq0-via-then-size-eq0, then-size-eq0-via-else-size-eq0+then-uint_to_float_round_down-class}
use Rattle.offset_allocator.proofs.moves.room.room_cost_counted.Goals as goal

pub find_at_or_above-requires-clause-classed : goal.find_at_or_above-requires-clause-classed
find_at_or_above-requires-clause-classed g c = omega (arith, (below_value_up c.args.size (omega arith)).1, c.uint_to_float_round_up-class.ensures.is)

pub cheapest-requires-clause-alone : goal.cheapest-requires-clause-alone
cheapest-requires-clause-alone g c =
    let f : Fields = fields_of g.T.Tables.cells g.T.Index.NodeIndex.MAX c.allocator.inside in
    class_alone f c.allocator.invariant c.args.allocator.now c.allocator.view_is c.formed.ensures c.args.size c.uint_to_float_round_up-class.result c.uint_to_float_round_down.result
    c.uint_to_float_round_up-class.ensures.is c.uint_to_float_round_down.ensures.is c.float_to_uint.result 0 c.if-uint_to_float_round_down-class.false c.float_to_uint.ensures.is
    (λ _. none_fits c.args.allocator.now c.formed.ensures c.args.size c.uint_to_float_round_up-class.result _ c.find_at_or_above.result c.uint_to_float_round_up-class.ensures.is
    (ap (λ (u : View). u.bins) c.allocator.view_is) c.find_at_or_above.ensures.smallest (λ e. true≢false (sym e ∙ sym c.is_some.ensures ∙ c.if-is_some.false)))

pub returns-in_err-run-clause-cost : goal.returns-in_err-run-clause-cost
returns-in_err-run-clause-cost g c =
    let f : Fields = fields_of g.T.Tables.cells g.T.Index.NodeIndex.MAX c.allocator.inside in
    rw c.from_residual.ensures (least_one _ _ None
    (found_none f c.allocator.invariant c.args.allocator.now c.allocator.view_is c.formed.ensures c.args.size c.uint_to_float_round_up-class.result c.uint_to_float_round_down.result
    c.uint_to_float_round_up-class.ensures.is c.uint_to_float_round_down.ensures.is 1 0 c.float_to_uint.result 0 c.if-uint_to_float_round_down-class.false c.float_to_uint.ensures.is refl c.in_err-run.ensures.run))

pub returns-clause-cost : goal.returns-clause-cost
returns-clause-cost g c =
    let f : Fields = fields_of g.T.Tables.cells g.T.Index.NodeIndex.MAX c.allocator.inside in
    least_one _ _ (Some c.in_ok-run.run'.cost)
    (found_cost f c.allocator.invariant c.args.allocator.now c.allocator.view_is c.formed.ensures c.args.size c.uint_to_float_round_up-class.result c.uint_to_float_round_down.result
    c.uint_to_float_round_up-class.ensures.is c.uint_to_float_round_down.ensures.is 1 0 c.float_to_uint.result 0 c.if-uint_to_float_round_down-class.false c.float_to_uint.ensures.is refl
    c.in_ok-run.run' c.in_ok-run.ensures.run)

pub returns-then-is_some-clause-cost : goal.returns-then-is_some-clause-cost
returns-then-is_some-clause-cost g c =
    least_one _ _ (Some _) (found_alone 1 0 c.args.size c.args.allocator.now c.formed.ensures (omega arith)
    (some_fits c.args.size c.uint_to_float_round_up-class.result c.args.allocator.now _ c.find_at_or_above.result c.uint_to_float_round_up-class.ensures.is
    (ap (λ (u : View). u.bins) c.allocator.view_is) c.find_at_or_above.ensures.smallest (sym c.is_some.ensures ∙ c.if-is_some.true)))

pub returns-then-size-eq0-clause-cost : goal.returns-then-size-eq0-clause-cost
returns-then-size-eq0-clause-cost g c =
    let v : View = c.args.allocator.now in
    let f : Fields = fields_of g.T.Tables.cells g.T.Index.NodeIndex.MAX c.allocator.inside in
    let none = none_fits v c.formed.ensures c.args.size c.uint_to_float_round_up-class.result _ c.find_at_or_above.result c.uint_to_float_round_up-class.ensures.is
    (ap (λ (u : View). u.bins) c.allocator.view_is) c.find_at_or_above.ensures.smallest (λ e. true≢false (sym e ∙ sym c.is_some.ensures ∙ c.if-is_some.false)) in
    elim c.then-size-eq0.branch [
      | then-size-eq0-via-then-size-eq0 w ↦ λ run r. absurd (run_some run v.blocks r (none_free v c.formed.ensures (subst (λ n. HasFit n v → ⊥) w.if-size-eq0.true none)))
      | then-size-eq0-via-else-size-eq0+then-uint_to_float_round_down-class w ↦
          least_one _ _ None (class_few f c.allocator.invariant v c.allocator.view_is c.formed.ensures c.args.size c.uint_to_float_round_up-class.result w.uint_to_float_round_down.result
          c.uint_to_float_round_up-class.ensures.is w.uint_to_float_round_down.ensures.is 1 0 w.if-uint_to_float_round_down-class.true)
    ]

pub float_to_uint-requires : goal.float_to_uint-requires
float_to_uint-requires g c = omega (arith, (below_value_up c.args.size (omega arith)).1, c.uint_to_float_round_up-class.ensures.is)
