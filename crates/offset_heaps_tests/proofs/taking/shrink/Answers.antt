use Rattle.std.proofs.Common.{refl}
use Rattle.offset_heaps_tests.proofs.Steps.{part_of}
use Rattle.offset_heaps_tests.proofs.taking.shrink.Goals as goal

pub returns : goal.returns
returns c =
    let is = c.shrink.ensures in
    record { live = is.live; not_live = is.not_live; step = λ some. part_of _ _ _ _ _ (λ g h p. (c.shrink.result, refl, p, refl)) (is.step some) }
