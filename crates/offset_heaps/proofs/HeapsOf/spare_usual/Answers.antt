use Rattle.std.proofs.Common.{ap, arith}
use Rattle.offset_heaps.specs.Heaps.{Heaps}
use Rattle.offset_heaps.proofs.Finding.{levels, usual_first}
use Rattle.offset_heaps.proofs.HeapsOf.spare_usual.Goals as goal

pub returns-clause-first : goal.returns-clause-first
returns-clause-first g c = rw (← c.self.view_is)
    (usual_first g.T.Index.NodeIndex.MAX c.self.inside.slots c.self.inside.limits c.self.inside.made c.self.inside.index c.self.invariant c.self.inside.realm c.self.inside.accesses
    c.args.size c.first_at_least-found.result c.below.result c.requires.some
    c.first_at_least-found.ensures.first c.below.ensures)

pub returns-clause-accesses : goal.returns-clause-accesses
returns-clause-accesses g c bits enough =
    let low = levels g.T.Index.NodeIndex.MAX c.self.inside.slots c.self.inside.limits c.self.inside.made c.self.inside.index c.self.invariant c.self.inside.realm c.self.inside.accesses
    c.args.self.now c.self.view_is bits enough in
    let start = ap (λ (h : Heaps). h.accesses) c.self.view_is in
    let same = c.self.invariant.wide.level_spare in
    omega arith
