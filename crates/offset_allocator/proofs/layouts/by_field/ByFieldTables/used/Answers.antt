use Rattle.offset_allocator.proofs.{Common.◌∙◌, Common.ap, Common.sym, Common.arith, Common.get_or-map, Arranging.Fields.read, Arranging.Fields.within}
use Rattle.offset_allocator.proofs.layouts.by_field.ByFieldTables.used.Goals as goal

pub returns-clause-cell : goal.returns-clause-cell
returns-clause-cell g c =
    let t = c.self.inside in
    let short = within _ _ t c.self.view_is c.args.name c.requires in
    let newer = ap g.NI.NodeIndex.number c.index.ensures ∙ sym (get_or-map g.NI.NodeIndex.number t.newer.items c.args.name _ 0 (omega (arith, short, c.self.invariant.newer))) in
    rw (c.number.ensures.number, c.MAX.ensures, newer) (sym (ap (λ v. v.used) (read _ _ t c.self.view_is c.args.name c.requires)))
