use Rattle.offset_allocator.proofs.{Classes.below_value_up, Sound.Fields, Sound.fields_of}
use Rattle.offset_allocator.proofs.Moving.Runs.{none_fits, some_fits}
use Rattle.offset_allocator.proofs.Moving.RoomsBySteps.{class_alone, class_few, class_needed, found_by, found_cost, found_none, past_by}
use Rattle.offset_allocator.proofs.Moving.RoomAdvice.{granted_by}
use Rattle.offset_allocator.proofs.Common.{◌≡◌, ◌+◌, ◌-◌, ◌∙◌, Some, None, true≢false, sym, ap, subst, arith, up, value, View, AdmitsBlocks, blocks_needed, units_needed}
use Rattle.offset_allocator.specs.Moving.RoomBySteps.{IsLeastCostBy, names_short}
use Rattle.offset_allocator.proofs.moves.room_by_steps.room_cost_by_counted.Goals.{else-unused-blocks-via-then-unused-blocks+else-is_some, else-unused-blocks-via-else-unused-blocks}
use Rattle.offset_allocator.proofs.moves.room_by_steps.room_cost_by_counted.Goals as goal

pub returns-then-units-clause-cost : goal.returns-then-units-clause-cost
returns-then-units-clause-cost g c =
    past_by c.args.step (units_needed c.args.size c.args.align) (names_short (blocks_needed c.args.align) c.args.allocator.now) c.args.allocator.now c.formed.ensures
    (omega (arith, c.if-units.true, c.requires.alignment))

pub find_at_or_above-requires-clause-classed : goal.find_at_or_above-requires-clause-classed
find_at_or_above-requires-clause-classed g c = omega (arith, (below_value_up (c.args.size + (c.args.align - 1)) (omega arith)).1, c.uint_to_float_round_up-class.ensures.is)

pub float_to_uint-requires : goal.float_to_uint-requires
float_to_uint-requires g c = omega (arith, (below_value_up (c.args.size + (c.args.align - 1)) (omega arith)).1, c.uint_to_float_round_up-class.ensures.is)

pub returns-then-is_some-clause-cost : goal.returns-then-is_some-clause-cost
returns-then-is_some-clause-cost g c =
    let v : View = c.args.allocator.now in
    let room : AdmitsBlocks (blocks_needed c.args.align) v = omega (arith, c.if-unused-blocks.true, c.min-blocks.ensures, c.unused_nodes-unused.ensures) in
    let up_is = class_needed c.args.size c.args.align c.uint_to_float_round_up-class.result c.requires.alignment c.uint_to_float_round_up-class.ensures.is in
    found_by c.args.step (blocks_needed c.args.align) (units_needed c.args.size c.args.align) v c.formed.ensures room
    (some_fits (units_needed c.args.size c.args.align) c.uint_to_float_round_up-class.result v _ c.find_at_or_above.result up_is (ap (λ (u : View). u.bins) c.allocator.view_is)
    c.find_at_or_above.ensures.smallest (sym c.is_some.ensures ∙ c.if-is_some.true))

pub returns-then-uint_to_float_round_down-class-clause-cost : goal.returns-then-uint_to_float_round_down-class-clause-cost
returns-then-uint_to_float_round_down-class-clause-cost g c =
    class_few (fields_of g.T.Tables.cells g.T.Index.NodeIndex.MAX c.allocator.inside) c.allocator.invariant c.args.allocator.now c.allocator.view_is c.formed.ensures (units_needed c.args.size c.args.align)
    c.uint_to_float_round_up-class.result c.uint_to_float_round_down.result
    (class_needed c.args.size c.args.align c.uint_to_float_round_up-class.result c.requires.alignment c.uint_to_float_round_up-class.ensures.is)
    c.uint_to_float_round_down.ensures.is c.args.step (names_short (blocks_needed c.args.align) c.args.allocator.now) c.if-uint_to_float_round_down-class.true

pub cheapest_by-requires-clause-alone : goal.cheapest_by-requires-clause-alone
cheapest_by-requires-clause-alone g c =
    let f : Fields = fields_of g.T.Tables.cells g.T.Index.NodeIndex.MAX c.allocator.inside in
    let v : View = c.args.allocator.now in
    let n = units_needed c.args.size c.args.align in
    let up_is = class_needed c.args.size c.args.align c.uint_to_float_round_up-class.result c.requires.alignment c.uint_to_float_round_up-class.ensures.is in
    class_alone f c.allocator.invariant v c.allocator.view_is c.formed.ensures n c.uint_to_float_round_up-class.result c.uint_to_float_round_down.result up_is c.uint_to_float_round_down.ensures.is
    c.float_to_uint.result c.saturating_sub-short.result c.if-uint_to_float_round_down-class.false c.float_to_uint.ensures.is
    (λ few fit. elim c.else-unused-blocks.branch [
      | else-unused-blocks-via-then-unused-blocks+else-is_some w ↦
          none_fits v c.formed.ensures n c.uint_to_float_round_up-class.result _ w.find_at_or_above.result up_is (ap (λ (u : View). u.bins) c.allocator.view_is) w.find_at_or_above.ensures.smallest
          (λ e. true≢false (sym e ∙ sym w.is_some.ensures ∙ w.if-is_some.false)) fit
      | else-unused-blocks-via-else-unused-blocks w ↦ omega (arith, few, c.saturating_sub-short.ensures, w.if-unused-blocks)
    ])

pub returns-in_err-run-clause-cost : goal.returns-in_err-run-clause-cost
returns-in_err-run-clause-cost g c =
    let f : Fields = fields_of g.T.Tables.cells g.T.Index.NodeIndex.MAX c.allocator.inside in
    let v : View = c.args.allocator.now in
    let k = blocks_needed c.args.align in
    let n = units_needed c.args.size c.args.align in
    let up_is = class_needed c.args.size c.args.align c.uint_to_float_round_up-class.result c.requires.alignment c.uint_to_float_round_up-class.ensures.is in
    let short_is : c.saturating_sub-short.result ≡ names_short k v = omega (arith, c.saturating_sub-short.ensures, c.min-blocks.ensures, c.unused_nodes-unused.ensures) in
    let none = found_none f c.allocator.invariant v c.allocator.view_is c.formed.ensures n c.uint_to_float_round_up-class.result c.uint_to_float_round_down.result up_is
    c.uint_to_float_round_down.ensures.is c.args.step (names_short k c.args.allocator.now) c.float_to_uint.result c.saturating_sub-short.result c.if-uint_to_float_round_down-class.false c.float_to_uint.ensures.is short_is
    c.in_err-run.ensures.run in
    subst (IsLeastCostBy c.args.step (value (up n)) (names_short k v) v.blocks) (sym c.from_residual.ensures) none

pub returns-clause-cost : goal.returns-clause-cost
returns-clause-cost g c =
    let f : Fields = fields_of g.T.Tables.cells g.T.Index.NodeIndex.MAX c.allocator.inside in
    let v : View = c.args.allocator.now in
    let k = blocks_needed c.args.align in
    let n = units_needed c.args.size c.args.align in
    let up_is = class_needed c.args.size c.args.align c.uint_to_float_round_up-class.result c.requires.alignment c.uint_to_float_round_up-class.ensures.is in
    let short_is : c.saturating_sub-short.result ≡ names_short k v = omega (arith, c.saturating_sub-short.ensures, c.min-blocks.ensures, c.unused_nodes-unused.ensures) in
    found_cost f c.allocator.invariant v c.allocator.view_is c.formed.ensures n c.uint_to_float_round_up-class.result c.uint_to_float_round_down.result up_is c.uint_to_float_round_down.ensures.is
    c.args.step (names_short k c.args.allocator.now) c.float_to_uint.result c.saturating_sub-short.result c.if-uint_to_float_round_down-class.false c.float_to_uint.ensures.is short_is c.in_ok-run.run' c.in_ok-run.ensures.run

pub returns-then-units-clause-granted : goal.returns-then-units-clause-granted
returns-then-units-clause-granted g c =
    granted_by c.args.allocator.now c.formed.ensures c.args.step (blocks_needed c.args.align) (units_needed c.args.size c.args.align) None (returns-then-units-clause-cost g c)

pub returns-then-is_some-clause-granted : goal.returns-then-is_some-clause-granted
returns-then-is_some-clause-granted g c =
    granted_by c.args.allocator.now c.formed.ensures c.args.step (blocks_needed c.args.align) (units_needed c.args.size c.args.align) (Some (record { units = 0; ranges = 0 })) (returns-then-is_some-clause-cost g c)

pub returns-then-uint_to_float_round_down-class-clause-granted : goal.returns-then-uint_to_float_round_down-class-clause-granted
returns-then-uint_to_float_round_down-class-clause-granted g c =
    granted_by c.args.allocator.now c.formed.ensures c.args.step (blocks_needed c.args.align) (units_needed c.args.size c.args.align) None (returns-then-uint_to_float_round_down-class-clause-cost g c)

pub returns-in_err-run-clause-granted : goal.returns-in_err-run-clause-granted
returns-in_err-run-clause-granted g c =
    granted_by c.args.allocator.now c.formed.ensures c.args.step (blocks_needed c.args.align) (units_needed c.args.size c.args.align) c.from_residual.result (returns-in_err-run-clause-cost g c)

pub returns-clause-granted : goal.returns-clause-granted
returns-clause-granted g c =
    granted_by c.args.allocator.now c.formed.ensures c.args.step (blocks_needed c.args.align) (units_needed c.args.size c.args.align) (Some c.in_ok-run.run'.cost) (returns-clause-cost g c)
