use Rattle.std.proofs.Common.{◌<◌, length, ap, arith}
use Rattle.offset_heaps.specs.Heaps.{Heaps}
use Rattle.offset_heaps.proofs.Raising.{held_raised, rooms_raised, sound_raised, stays_raised}
use Rattle.offset_heaps.proofs.HeapsOf.raise.Goals as goal

pub invariant_of-self : goal.invariant_of-self
invariant_of-self g c =
    let there : c.args.number < length c.self.inside.slots = let l = c.requires.there in let e = ap (λ (h : Heaps). length h.slots) c.self.view_is in omega arith in
    sound_raised g.T.Index.NodeIndex.MAX c.self.inside.slots c.raise.new.self c.self.inside.limits c.self.inside.made c.self.inside.index c.args.number c.args.blocks there c.self.invariant c.raise.result
    c.raise.ensures.raises c.raise.ensures.same

pub returns-clause-stays : goal.returns-clause-stays
returns-clause-stays g c =
    let there : c.args.number < length c.self.inside.slots = let l = c.requires.there in let e = ap (λ (h : Heaps). length h.slots) c.self.view_is in omega arith in
    rw (← c.self.view_is) (stays_raised g.T.Index.NodeIndex.MAX c.self.inside.slots c.raise.new.self c.self.inside.limits c.self.inside.made c.self.inside.index c.args.number c.args.blocks there c.self.invariant
    c.raise.result c.requires.few c.raise.ensures.formed c.raise.ensures.raises)

pub returns-clause-room : goal.returns-clause-room
returns-clause-room g c =
    let there : c.args.number < length c.self.inside.slots = let l = c.requires.there in let e = ap (λ (h : Heaps). length h.slots) c.self.view_is in omega arith in
    rw (← c.self.view_is) (rooms_raised g.T.Index.NodeIndex.MAX c.self.inside.slots c.raise.new.self c.self.inside.limits c.self.inside.made c.self.inside.index c.args.number c.args.blocks there c.self.invariant
    c.raise.result c.raise.ensures.raises)

pub returns-clause-holds : goal.returns-clause-holds
returns-clause-holds g c =
    let there : c.args.number < length c.self.inside.slots = let l = c.requires.there in let e = ap (λ (h : Heaps). length h.slots) c.self.view_is in omega arith in
    rw (← c.self.view_is) (held_raised g.T.Index.NodeIndex.MAX c.self.inside.slots c.raise.new.self c.self.inside.limits c.self.inside.made c.self.inside.index c.args.number c.args.blocks there c.self.invariant
    c.raise.result c.raise.ensures.raises)
