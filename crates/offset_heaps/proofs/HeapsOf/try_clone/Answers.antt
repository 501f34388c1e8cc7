use Rattle.offset_heaps.proofs.States.{copied_sound}
use Rattle.offset_heaps.proofs.HeapsOf.try_clone.Goals as goal

pub invariant_of-result : goal.invariant_of-result
invariant_of-result g c =
    copied_sound g.T.Index.NodeIndex.MAX c.self.inside.slots c.in_ok-slots.slots c.self.inside.limits c.self.inside.made c.self.inside.index c.in_ok-index.index
    c.self.invariant c.in_ok-slots.ensures c.in_ok-index.ensures.wide c.in_ok-index.ensures.noted c.in_ok-index.ensures.low
