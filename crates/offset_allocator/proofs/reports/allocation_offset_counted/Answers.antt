use Rattle.offset_allocator.proofs.Common.{ap, ◌∙◌, ℕ, Some, refl, option_map, Range, range_of}
use Rattle.offset_allocator.proofs.{Sound.fields_of, Reading.live_below, Reading.live_offset}
use Rattle.offset_allocator.proofs.reports.allocation_offset_counted.Goals as goal

pub offset-requires : goal.offset-requires
offset-requires g c = live_below (fields_of g.T.Tables.cells g.T.Index.NodeIndex.MAX c.allocator.inside) _ c.allocator.invariant _ c.allocator.view_is (c.if-is_name_live.ensures.live.0 refl)

pub returns-then-is_name_live-clause-offset : goal.returns-then-is_name_live-clause-offset
returns-then-is_name_live-clause-offset g c =
    ap Some c.offset.ensures.cell ∙ live_offset (fields_of g.T.Tables.cells g.T.Index.NodeIndex.MAX c.allocator.inside) _ c.allocator.invariant _ c.allocator.view_is
    (c.if-is_name_live.ensures.live.0 refl)
    ∙ ap (λ (i : ℕ). option_map (λ (r : Range). r.offset) (range_of i c.args.allocator.now)) c.name-name.ensures.number
