use Rattle.std.proofs.Common.{refl, arith, None, IsSome, sym, subst, ◌∙◌}
use Rattle.offset_heaps.specs.Heaps.{Heaps, heap_at}
use Rattle.offset_heaps.proofs.{Numbers.slot_same, Sound.sound_put}
use Rattle.offset_heaps.proofs.HeapsOf.give_up.Goals as goal

pub invariant_of-self-2 : goal.invariant_of-self-2
invariant_of-self-2 g c = let there = c.has.ensures.there c.if-not-has.false in
    let e = c.put.ensures.heaps in
    rw e (sound_put g.T.Index.NodeIndex.MAX c.self.inside.slots c.self.inside.limits c.self.inside.made c.self.inside.made c.self.inside.index c.note.new.self c.args.number None
    c.self.invariant (omega arith) tt tt there
    (rw e at c.note.ensures.wide) (rw e at c.note.ensures.here) (rw e at c.note.ensures.others) c.note.ensures.levels)

pub returns-clause-done : goal.returns-clause-done
returns-clause-done g c = (λ _. subst (λ (hs : Heaps). IsSome (heap_at c.args.number hs)) c.self.view_is (sym c.has.ensures.has ∙ c.if-not-has.false), λ _. refl)

pub returns-clause-gone : goal.returns-clause-gone
returns-clause-gone g c = rw c.put.ensures.heaps (slot_same c.self.inside.slots c.args.number None (c.has.ensures.there c.if-not-has.false))
