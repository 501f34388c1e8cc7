use Rattle.std.proofs.Common.{◌≡◌, ◌+◌, ◌<◌, length, IfSome, ap, arith, subst, sym}
use Rattle.offset_guarded.specs.Guard.{Guard}
use Rattle.offset_heaps.specs.Heaps.{Heaps, IsOfKind}
use Rattle.offset_heaps.proofs.{Finding.levels, Sound.realm_new, Sound.sound_put}
use Rattle.offset_heaps.proofs.HeapsOf.add.Goals as goal

pub invariant_of-self : goal.invariant_of-self
invariant_of-self g c =
    let there : c.args.number < length c.self.inside.slots = let l = c.requires.there in let e = ap (λ (h : Heaps). length h.slots) c.self.view_is in omega arith in
    let e = c.put.ensures.heaps in
    let realm = subst (λ (h : Heaps). IfSome c.args.slot (λ (a : Guard). a.realm ≡ h.made + 1)) (sym c.self.view_is) c.requires.realm in
    let kind = subst (λ (h : Heaps). IfSome c.args.slot (IsOfKind h.limits c.args.number)) (sym c.self.view_is) c.requires.kind in
    let below = realm_new (c.self.inside.made + 1) c.args.slot realm in
    rw e (sound_put g.T.Index.NodeIndex.MAX c.self.inside.slots c.self.inside.limits c.self.inside.made (c.self.inside.made + 1) c.self.inside.index c.note.new.self c.args.number c.args.slot
    c.self.invariant (omega arith) below kind there (rw e at c.note.ensures.wide) (rw e at c.note.ensures.here) (rw e at c.note.ensures.others) c.note.ensures.levels)

pub returns-clause-accesses : goal.returns-clause-accesses
returns-clause-accesses g c bits enough =
    let low = levels g.T.Index.NodeIndex.MAX c.self.inside.slots c.self.inside.limits c.self.inside.made c.self.inside.index c.self.invariant c.self.inside.realm c.self.inside.accesses
    c.args.self.now c.self.view_is bits enough in
    let start = ap (λ (h : Heaps). h.accesses) c.self.view_is in
    omega arith
