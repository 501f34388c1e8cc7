use Rattle.offset_allocator.proofs.{Common.◌∙◌, Common.ap, Common.sym, Common.get_or_default_zero, Arranging.Fields.read, Arranging.Fields.within}
use Rattle.offset_allocator.proofs.layouts.by_field.ByFieldTables.offset.Goals as goal

pub returns-clause-cell : goal.returns-clause-cell
returns-clause-cell g c =
    let t = c.self.inside in
    c.index.ensures ∙ get_or_default_zero t.offset.items c.args.name _ (within _ _ t c.self.view_is c.args.name c.requires)
    ∙ sym (ap (λ v. v.offset) (read _ _ t c.self.view_is c.args.name c.requires))
