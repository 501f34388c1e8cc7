use Rattle.offset_allocator.proofs.{Common.sym, Common.ap, Common.◌∙◌, Common.ℕ, Sound.fields_of, Reporting.Nearby.live_place, Reporting.Nearby.first_before, Reporting.Nearby.there_before}
use Rattle.offset_allocator.proofs.{Reporting.Nearby.said_before}
use Rattle.offset_allocator.specs.Reporting.Walking.{live_before}
use Rattle.offset_allocator.proofs.reports.walks.live_before_counted.Goals as goal

pub before-requires : goal.before-requires
before-requires g c =
    live_place (fields_of g.T.Tables.cells g.T.Index.NodeIndex.MAX c.allocator.inside) c.allocator.invariant _ _ c.allocator.view_is (c.is_name_live.ensures.live.0 c.if-not-is_name_live.false)

pub returns-in_err-previous-clause-before : goal.returns-in_err-previous-clause-before
returns-in_err-previous-clause-before g c =
    c.from_residual.ensures
    ∙ first_before (fields_of g.T.Tables.cells g.T.Index.NodeIndex.MAX c.allocator.inside) c.allocator.invariant _ _ c.allocator.view_is (c.is_name_live.ensures.live.0 c.if-not-is_name_live.false)
    (sym c.in_err-previous.was ∙ c.before-2.ensures.before)
    ∙ ap (λ (x : ℕ). live_before x c.args.allocator.now) c.name-name.ensures.number

pub live_up_to-requires : goal.live_up_to-requires
live_up_to-requires g c = record {
  place =
      there_before (fields_of g.T.Tables.cells g.T.Index.NodeIndex.MAX c.allocator.inside) c.allocator.invariant _ _ c.allocator.view_is (c.is_name_live.ensures.live.0 c.if-not-is_name_live.false)
      _ (sym c.in_ok-previous.was ∙ c.before-2.ensures.before);
}

pub returns-clause-before : goal.returns-clause-before
returns-clause-before g c =
    said_before (fields_of g.T.Tables.cells g.T.Index.NodeIndex.MAX c.allocator.inside) c.allocator.invariant _ _ c.allocator.view_is (c.is_name_live.ensures.live.0 c.if-not-is_name_live.false)
    _ (sym c.in_ok-previous.was ∙ c.before-2.ensures.before) _ c.live_up_to.ensures.last
    ∙ ap (λ (x : ℕ). live_before x c.args.allocator.now) c.name-name.ensures.number
