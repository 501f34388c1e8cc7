use Rattle.offset_allocator.proofs.{Common.sym, Common.ap, Common.◌∙◌, Common.ℕ, Sound.fields_of, Reporting.Nearby.live_place, Reporting.Nearby.last_after, Reporting.Nearby.there_after}
use Rattle.offset_allocator.proofs.{Reporting.Nearby.said_after}
use Rattle.offset_allocator.specs.Reporting.Walking.{live_after}
use Rattle.offset_allocator.proofs.reports.walks.live_after_counted.Goals as goal

pub after-requires : goal.after-requires
after-requires g c =
    live_place (fields_of g.T.Tables.cells g.T.Index.NodeIndex.MAX c.allocator.inside) c.allocator.invariant _ _ c.allocator.view_is (c.is_name_live.ensures.live.0 c.if-not-is_name_live.false)

pub returns-in_err-following-clause-after : goal.returns-in_err-following-clause-after
returns-in_err-following-clause-after g c =
    c.from_residual.ensures
    ∙ last_after (fields_of g.T.Tables.cells g.T.Index.NodeIndex.MAX c.allocator.inside) c.allocator.invariant _ _ c.allocator.view_is (c.is_name_live.ensures.live.0 c.if-not-is_name_live.false)
    (sym c.in_err-following.was ∙ c.after.ensures.after)
    ∙ ap (λ (x : ℕ). live_after x c.args.allocator.now) c.name-name.ensures.number

pub live_from-requires : goal.live_from-requires
live_from-requires g c = record {
  place =
      there_after (fields_of g.T.Tables.cells g.T.Index.NodeIndex.MAX c.allocator.inside) c.allocator.invariant _ _ c.allocator.view_is (c.is_name_live.ensures.live.0 c.if-not-is_name_live.false)
      _ (sym c.in_ok-following.was ∙ c.after.ensures.after);
}

pub returns-clause-after : goal.returns-clause-after
returns-clause-after g c =
    said_after (fields_of g.T.Tables.cells g.T.Index.NodeIndex.MAX c.allocator.inside) c.allocator.invariant _ _ c.allocator.view_is (c.is_name_live.ensures.live.0 c.if-not-is_name_live.false)
    _ (sym c.in_ok-following.was ∙ c.after.ensures.after) _ c.live_from.ensures.first
    ∙ ap (λ (x : ℕ). live_after x c.args.allocator.now) c.name-name.ensures.number
