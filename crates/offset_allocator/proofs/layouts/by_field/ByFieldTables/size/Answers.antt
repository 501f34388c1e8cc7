use Rattle.offset_allocator.proofs.{Common.◌∙◌, Common.ap, Common.sym, Common.arith, Common.get_or_default_zero, Arranging.Fields.read, Arranging.Fields.within}
use Rattle.offset_allocator.proofs.layouts.by_field.ByFieldTables.size.Goals as goal

pub returns-clause-cell : goal.returns-clause-cell
returns-clause-cell g c =
    let t = c.self.inside in
    c.index.ensures ∙ get_or_default_zero t.size.items c.args.name _ (omega (arith, within _ _ t c.self.view_is c.args.name c.requires, c.self.invariant.size))
    ∙ sym (ap (λ v. v.size) (read _ _ t c.self.view_is c.args.name c.requires))
