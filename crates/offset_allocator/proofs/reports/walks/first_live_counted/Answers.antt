use Rattle.offset_allocator.proofs.{Common.sym, Common.ap, Common.◌∙◌, Common.ℕ, Common.Some, Common.arith, Sound.fields_of, Reporting.Foremost.first_there, Reporting.Foremost.first_said}
use Rattle.offset_allocator.proofs.reports.walks.first_live_counted.Goals as goal

pub offset-requires : goal.offset-requires
offset-requires g c = (first_there (fields_of g.T.Tables.cells g.T.Index.NodeIndex.MAX c.allocator.inside) c.allocator.invariant _ (sym c.in_ok-name.was ∙ c.first_used.ensures.first)).below

pub handle_of-requires : goal.handle_of-requires
handle_of-requires g c = omega (
  arith,
  c.shape.ensures.within,
  c.shape.ensures.limit,
  (first_there (fields_of g.T.Tables.cells g.T.Index.NodeIndex.MAX c.allocator.inside) c.allocator.invariant _ (sym c.in_ok-name.was ∙ c.first_used.ensures.first)).below,
)

pub returns-clause-first : goal.returns-clause-first
returns-clause-first g c =
    ap Some (c.handle_of.ensures ∙ ap (λ (o : ℕ). record { name = c.in_ok-name.name; offset = o }) c.offset.ensures.cell)
    ∙ first_said (fields_of g.T.Tables.cells g.T.Index.NodeIndex.MAX c.allocator.inside) c.allocator.invariant _ (sym c.in_ok-name.was ∙ c.first_used.ensures.first) _ c.allocator.view_is
