use Rattle.std.proofs.Common.{◌≡◌, None, replicate}
use Rattle.offset_heaps.proofs.slots.Slots.with_room.Given as goal

abbrev pub invariant-loop-number : goal.invariant-loop-number
invariant-loop-number g l = l.heaps.items ≡ replicate l._number None
