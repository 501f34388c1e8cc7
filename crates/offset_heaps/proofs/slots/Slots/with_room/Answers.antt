use Rattle.std.proofs.Common.{None, replicate, ap, ◌∙◌, arith}
use Rattle.offset_heaps.proofs.slots.Slots.with_room.Goals as goal

pub returns : goal.returns
returns g c = c.loop-number.invariant ∙ ap (λ n. replicate n None) (omega arith)
