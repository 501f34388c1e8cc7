use Rattle.offset_allocator.proofs.{Common.ap, Common.◌∙◌, Common.ℕ, Common.refl, Common.size_of, Sound.fields_of, Reading.live_below, Reading.live_size}
use Rattle.offset_allocator.proofs.reports.allocation_size_counted.Goals as goal

pub size-requires : goal.size-requires
size-requires g c = live_below (fields_of g.T.Tables.cells g.T.Index.NodeIndex.MAX c.allocator.inside) _ c.allocator.invariant _ c.allocator.view_is (c.if-is_name_live.ensures.live.0 refl)

pub returns-then-is_name_live-clause-size : goal.returns-then-is_name_live-clause-size
returns-then-is_name_live-clause-size g c =
    c.size.ensures.cell ∙ live_size (fields_of g.T.Tables.cells g.T.Index.NodeIndex.MAX c.allocator.inside) _ c.allocator.invariant _ c.allocator.view_is (c.if-is_name_live.ensures.live.0 refl)
    ∙ ap (λ (i : ℕ). size_of i c.args.allocator.now) c.name-name.ensures.number
