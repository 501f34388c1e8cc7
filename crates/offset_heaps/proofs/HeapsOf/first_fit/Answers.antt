use Rattle.std.proofs.Common.{ap, arith, min}
use Rattle.offset_heaps.specs.Heaps.{Heaps}
use Rattle.offset_heaps.proofs.Finding.{first_fits, fit_there, levels}
use Rattle.offset_heaps.proofs.HeapsOf.first_fit.Goals as goal

pub returns-clause-first : goal.returns-clause-first
returns-clause-first g c = rw (← c.self.view_is)
    (first_fits g.T.Index.NodeIndex.MAX c.self.inside.slots c.self.inside.limits c.self.inside.made c.self.inside.index c.self.invariant c.self.inside.realm c.self.inside.accesses
    c.args.units c.args.align
    c.first_fit.result c.requires.alignment c.first_fit.ensures.one c.first_fit.ensures.two)

pub returns-clause-there : goal.returns-clause-there
returns-clause-there g c = rw (← c.self.view_is)
    (fit_there g.T.Index.NodeIndex.MAX c.self.inside.slots c.self.inside.limits c.self.inside.made c.self.inside.index c.self.invariant c.self.inside.realm c.self.inside.accesses
    (min c.args.align 2) c.args.units
    c.first_fit.result c.requires.some
    (first_fits g.T.Index.NodeIndex.MAX c.self.inside.slots c.self.inside.limits c.self.inside.made c.self.inside.index c.self.invariant c.self.inside.realm c.self.inside.accesses
    c.args.units c.args.align
    c.first_fit.result c.requires.alignment c.first_fit.ensures.one c.first_fit.ensures.two))

pub returns-clause-accesses : goal.returns-clause-accesses
returns-clause-accesses g c bits enough =
    let low = levels g.T.Index.NodeIndex.MAX c.self.inside.slots c.self.inside.limits c.self.inside.made c.self.inside.index c.self.invariant c.self.inside.realm c.self.inside.accesses
    c.args.self.now c.self.view_is bits enough in
    let start = ap (λ (h : Heaps). h.accesses) c.self.view_is in
    let two = c.self.invariant.wide.level_two in
    omega arith
