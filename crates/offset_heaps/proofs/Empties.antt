-- A number whose heap is empty has a heap.
use Rattle.std.proofs.Common.{◌≡◌, true, Option, Some, None, IsSome, refl}
use Rattle.offset_guarded.specs.Guard.{Guard}
use Rattle.offset_heaps.specs.Heaps.{is_empty}

pub empty_there : (o : Option Guard) → is_empty o ≡ true → IsSome o
empty_there None e = cc
empty_there (Some g) e = refl
