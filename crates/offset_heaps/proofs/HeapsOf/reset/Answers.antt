use Rattle.offset_heaps.proofs.Limited.{reset_limited, sound_levels}
use Rattle.offset_heaps.proofs.HeapsOf.reset.Goals as goal

pub invariant_of-self : goal.invariant_of-self
invariant_of-self g c =
    let all = c.reset_all.ensures in
    sound_levels _ _ _ _ _ _ _ c.self.invariant all.len all.wide all.noted all.levels (λ k. reset_limited _ _ (all.done k))

pub returns-clause-heaps : goal.returns-clause-heaps
returns-clause-heaps g c k = rw (← c.self.view_is) (c.reset_all.ensures.done k)
