use Rattle.std.proofs.Common.{refl}
use Rattle.offset_heaps_tests.proofs.Steps.{part_of}
use Rattle.offset_heaps_tests.proofs.taking.grow_in_place.Goals as goal

pub returns : goal.returns
returns c =
    let is = c.grow_in_place.ensures in
    record { live = is.live; not_live = is.not_live; step = λ some. part_of _ _ _ _ _ (λ g h p. (c.grow_in_place.result, refl, p, refl)) (is.step some) }
