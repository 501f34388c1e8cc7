use Rattle.offset_allocator.proofs.{Classes.below_value_up, Sound.Fields, Sound.shown, Sound.fields_of}
use Rattle.offset_allocator.proofs.Moving.Runs.{none_fits, some_fits}
use Rattle.offset_allocator.proofs.Moving.RoomsBySteps.{class_alone, class_few, class_needed, found_by, found_none, opened_at, opened_granted}
use Rattle.offset_allocator.proofs.Moving.RoomsBySteps.{past_by}
use Rattle.offset_allocator.proofs.Common.{◌≡◌, ◌+◌, ◌-◌, ◌∙◌, Some, true≢false, refl, sym, ap, subst, arith, up, value, View, AdmitsBlocks, blocks_needed, units_needed}
use Rattle.offset_allocator.specs.Moving.RoomBySteps.{names_short}
use Rattle.offset_allocator.proofs.Moving.RoomsBySteps.{IsOpenedBy, found_both, opened_filed, opened_place, slid, slid_sound, slid_costs}
use Rattle.offset_allocator.specs.Moving.RoomBySteps.{IsLeastCostBy}
use Rattle.offset_allocator.proofs.Common.{blocks}
use Rattle.offset_allocator.proofs.AllocatorOf.make_room_by.{Goals.In_ok-run, Given.Over}
use Rattle.offset_allocator.proofs.AllocatorOf.make_room_by.Goals.{else-unused-blocks-via-then-unused-blocks+else-is_some, else-unused-blocks-via-else-unused-blocks}
use Rattle.offset_allocator.proofs.AllocatorOf.make_room_by.Goals as goal

pub overflow_sub-align : goal.overflow_sub-align
overflow_sub-align g c = c.requires.alignment

pub overflow_sub-align-3 : goal.overflow_sub-align-3
overflow_sub-align-3 g c = c.requires.alignment

pub returns-then-size-align-clause-cost : goal.returns-then-size-align-clause-cost
returns-then-size-align-clause-cost g c =
    past_by c.args.step (units_needed c.args.size c.args.align) (names_short (blocks_needed c.args.align) c.args.self.now) c.args.self.now c.formed.ensures
    (omega (arith, c.if-size-align.true, c.requires.alignment))

pub find_at_or_above-found-requires-clause-classed : goal.find_at_or_above-found-requires-clause-classed
find_at_or_above-found-requires-clause-classed g c = omega (
  arith,
  (below_value_up (c.args.size + (c.args.align - 1)) (omega (arith, c.if-size-align.false, c.requires.alignment))).1,
  c.uint_to_float_round_up-class.ensures.is,
)

pub float_to_uint-requires : goal.float_to_uint-requires
float_to_uint-requires g c = omega (
  arith,
  (below_value_up (c.args.size + (c.args.align - 1)) (omega (arith, c.if-size-align.false, c.requires.alignment))).1,
  c.uint_to_float_round_up-class.ensures.is,
)

pub returns-then-is_some-clause-cost : goal.returns-then-is_some-clause-cost
returns-then-is_some-clause-cost g c =
    let room : AdmitsBlocks (blocks_needed c.args.align) c.args.self.now = omega (arith, c.if-unused-blocks.true, c.min-blocks.ensures, c.unused_nodes-unused.ensures) in
    let up_is = class_needed c.args.size c.args.align c.uint_to_float_round_up-class.result c.requires.alignment c.uint_to_float_round_up-class.ensures.is in
    found_by c.args.step (blocks_needed c.args.align) (units_needed c.args.size c.args.align) c.args.self.now c.formed.ensures room
    (some_fits (units_needed c.args.size c.args.align) c.uint_to_float_round_up-class.result c.args.self.now _ c.find_at_or_above-found.result up_is (ap (λ (u : View). u.bins) c.self.view_is)
    c.find_at_or_above-found.ensures.smallest (sym c.is_some.ensures ∙ c.if-is_some.true))

pub returns-then-is_some-clause-granted : goal.returns-then-is_some-clause-granted
returns-then-is_some-clause-granted g c =
    let f : Fields = fields_of g.T.Tables.cells g.T.Index.NodeIndex.MAX c.self.inside in
    let room : AdmitsBlocks (blocks_needed c.args.align) c.args.self.now = omega (arith, c.if-unused-blocks.true, c.min-blocks.ensures, c.unused_nodes-unused.ensures) in
    let up_is = class_needed c.args.size c.args.align c.uint_to_float_round_up-class.result c.requires.alignment c.uint_to_float_round_up-class.ensures.is in (
      subst (AdmitsBlocks (blocks_needed c.args.align)) (sym c.self.view_is) room,
      some_fits (units_needed c.args.size c.args.align) c.uint_to_float_round_up-class.result (shown f) _ c.find_at_or_above-found.result up_is refl
          c.find_at_or_above-found.ensures.smallest (sym c.is_some.ensures ∙ c.if-is_some.true),
    )

pub returns-then-uint_to_float_round_down-class-clause-cost : goal.returns-then-uint_to_float_round_down-class-clause-cost
returns-then-uint_to_float_round_down-class-clause-cost g c =
    class_few (fields_of g.T.Tables.cells g.T.Index.NodeIndex.MAX c.self.inside) c.self.invariant c.args.self.now c.self.view_is c.formed.ensures (units_needed c.args.size c.args.align)
    c.uint_to_float_round_up-class.result c.uint_to_float_round_down.result
    (class_needed c.args.size c.args.align c.uint_to_float_round_up-class.result c.requires.alignment c.uint_to_float_round_up-class.ensures.is)
    c.uint_to_float_round_down.ensures.is c.args.step (names_short (blocks_needed c.args.align) c.args.self.now) c.if-uint_to_float_round_down-class.true

pub cheapest_by-requires-clause-alone : goal.cheapest_by-requires-clause-alone
cheapest_by-requires-clause-alone g c =
    let f : Fields = fields_of g.T.Tables.cells g.T.Index.NodeIndex.MAX c.self.inside in
    let n = units_needed c.args.size c.args.align in
    let up_is = class_needed c.args.size c.args.align c.uint_to_float_round_up-class.result c.requires.alignment c.uint_to_float_round_up-class.ensures.is in
    class_alone f c.self.invariant c.args.self.now c.self.view_is c.formed.ensures n c.uint_to_float_round_up-class.result c.uint_to_float_round_down.result up_is c.uint_to_float_round_down.ensures.is
    c.float_to_uint.result c.saturating_sub-short.result c.if-uint_to_float_round_down-class.false c.float_to_uint.ensures.is
    (λ few fit. elim c.else-unused-blocks.branch [
      | else-unused-blocks-via-then-unused-blocks+else-is_some w ↦
          none_fits c.args.self.now c.formed.ensures n c.uint_to_float_round_up-class.result _ c.find_at_or_above-found.result up_is (ap (λ (u : View). u.bins) c.self.view_is)
          c.find_at_or_above-found.ensures.smallest (λ e. true≢false (sym e ∙ sym w.is_some.ensures ∙ w.if-is_some.false)) fit
      | else-unused-blocks-via-else-unused-blocks w ↦ omega (arith, few, c.saturating_sub-short.ensures, w.if-unused-blocks)
    ])

pub returns-in_err-run-clause-cost : goal.returns-in_err-run-clause-cost
returns-in_err-run-clause-cost g c =
    let f : Fields = fields_of g.T.Tables.cells g.T.Index.NodeIndex.MAX c.self.inside in
    let t = c.args.step in
    let k = blocks_needed c.args.align in
    let n = units_needed c.args.size c.args.align in
    let up_is = class_needed c.args.size c.args.align c.uint_to_float_round_up-class.result c.requires.alignment c.uint_to_float_round_up-class.ensures.is in
    let short_is : c.saturating_sub-short.result ≡ names_short k c.args.self.now = omega (arith, c.saturating_sub-short.ensures, c.min-blocks.ensures, c.unused_nodes-unused.ensures) in
    let none = found_none f c.self.invariant c.args.self.now c.self.view_is c.formed.ensures n c.uint_to_float_round_up-class.result c.uint_to_float_round_down.result up_is c.uint_to_float_round_down.ensures.is
    t (names_short k c.args.self.now) c.float_to_uint.result c.saturating_sub-short.result c.if-uint_to_float_round_down-class.false c.float_to_uint.ensures.is short_is c.in_err-run.ensures.run in
    rw c.from_residual.ensures none

-- what the search has found: the least cost, and the run
found : (g : Over) (c : In_ok-run g)
    → IsLeastCostBy c.args.step (value (up (units_needed c.args.size c.args.align))) (names_short (blocks_needed c.args.align) c.args.self.now) c.args.self.now.blocks (Some c.in_ok-run.run'.cost)
    × IsOpenedBy c.args.step (value (up (units_needed c.args.size c.args.align))) (names_short (blocks_needed c.args.align) c.args.self.now)
    (blocks (g.T.Tables.cells c.self.inside.store.tables).chain c.self.inside.store.last) c.in_ok-run.run'
found g c =
    let f : Fields = fields_of g.T.Tables.cells g.T.Index.NodeIndex.MAX c.self.inside in
    let k = blocks_needed c.args.align in
    let n = units_needed c.args.size c.args.align in
    let up_is = class_needed c.args.size c.args.align c.uint_to_float_round_up-class.result c.requires.alignment c.uint_to_float_round_up-class.ensures.is in
    let short_is : c.saturating_sub-short.result ≡ names_short k c.args.self.now = omega (arith, c.saturating_sub-short.ensures, c.min-blocks.ensures, c.unused_nodes-unused.ensures) in
    found_both f c.self.invariant c.args.self.now c.self.view_is c.formed.ensures n c.uint_to_float_round_up-class.result c.uint_to_float_round_down.result up_is c.uint_to_float_round_down.ensures.is
    c.args.step (names_short k c.args.self.now) c.float_to_uint.result c.saturating_sub-short.result c.if-uint_to_float_round_down-class.false c.float_to_uint.ensures.is short_is c.in_ok-run.run' c.in_ok-run.ensures.run

pub returns-then-run-eq0-clause-cost : goal.returns-then-run-eq0-clause-cost
returns-then-run-eq0-clause-cost g c = (found g (goal.at.returns-then-run-eq0-clause-cost g c).In_ok-run).0

pub returns-then-run-eq0-clause-granted : goal.returns-then-run-eq0-clause-granted
returns-then-run-eq0-clause-granted g c =
    opened_granted (fields_of g.T.Tables.cells g.T.Index.NodeIndex.MAX c.self.inside) c.self.invariant c.args.step _ _ c.in_ok-run.run' (found g (goal.at.returns-then-run-eq0-clause-granted g c).In_ok-run).1
    (blocks_needed c.args.align) (units_needed c.args.size c.args.align) refl (ap (names_short (blocks_needed c.args.align)) (sym c.self.view_is)) c.if-run-eq0.true

pub slide_run-requires-clause-place : goal.slide_run-requires-clause-place
slide_run-requires-clause-place g c =
    opened_place (fields_of g.T.Tables.cells g.T.Index.NodeIndex.MAX c.self.inside) c.self.invariant c.args.step _ _ c.in_ok-run.run' (found g (goal.at.slide_run-requires-clause-place g c).In_ok-run).1

pub invariant_of-self-2 : goal.invariant_of-self-2
invariant_of-self-2 g c =
    let o = (found g (goal.at.invariant_of-self-2 g c).In_ok-run).1 in
    let f : Fields = fields_of g.T.Tables.cells g.T.Index.NodeIndex.MAX c.self.inside in
    let k = blocks_needed c.args.align in
    let want = value (up (units_needed c.args.size c.args.align)) in
    let short = names_short k c.args.self.now in
    let r = c.in_ok-run.run' in
    let e = c.slide_run.ensures.place _ o.front o.block o.rest o.back (opened_at f c.self.invariant c.args.step want short r o) o.ends (opened_filed f c.self.invariant c.args.step want short r o) in
    slid_sound f c.self.invariant c.args.step want short r o k (ap (names_short k) (sym c.self.view_is)) e.3 c.slide_run.ensures.binned e.5 e.6 0

pub returns : goal.returns
returns g c =
    let o = (found g (goal.at.returns g c).In_ok-run).1 in
    let f : Fields = fields_of g.T.Tables.cells g.T.Index.NodeIndex.MAX c.self.inside in
    let k = blocks_needed c.args.align in
    let want = value (up (units_needed c.args.size c.args.align)) in
    let short = names_short k c.args.self.now in
    let r = c.in_ok-run.run' in
    let e = c.slide_run.ensures.place _ o.front o.block o.rest o.back (opened_at f c.self.invariant c.args.step want short r o) o.ends (opened_filed f c.self.invariant c.args.step want short r o) in
    let d = slid f c.self.invariant c.args.step want short r o k (ap (names_short k) (sym c.self.view_is)) e.3 c.slide_run.ensures.binned e.5 e.6 c.slide_run.new.store.accesses
    (units_needed c.args.size c.args.align) refl c.self.view_is c.if-run-eq0.false e.2 e.4 e.7 in
    record {
      cost = (found g (goal.at.returns g c).In_ok-run).0;
      step = d.0;
      live = d.1;
      sizes = d.2;
      granted = d.3;
      accesses = slid_costs f c.self.invariant c.args.step want short r o c.self.view_is c.find_at_or_above-found.ensures.accesses c.cheapest_by.ensures.accesses c.slide_run.ensures.accesses_min e.8;
    }
