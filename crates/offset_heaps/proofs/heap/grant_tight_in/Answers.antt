use Rattle.std.proofs.Common.{refl}
use Rattle.offset_heaps.proofs.heap.grant_tight_in.Goals as goal

pub returns : goal.returns
returns g c =
    record { before = c.in-Some.heap; after = c.raise_step.new.self; was = c.in-Some.is; is = refl; by = (c.allocate_tight.new.self, c.in-Some-allocate_tight.ensures, c.raise_step.ensures) }
