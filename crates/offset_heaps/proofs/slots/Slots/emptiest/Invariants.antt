use Rattle.std.proofs.Common.{◌≡◌, ◌+◌}
use Rattle.offset_heaps.proofs.Emptiest.{IsSoFar}
use Rattle.offset_heaps.proofs.slots.Slots.emptiest.Given as goal

abbrev pub invariant-loop-number : goal.invariant-loop-number
invariant-loop-number g l = record {
  so_far : IsSoFar l.number l.self l.found;
  accesses : l.count ≡ l.fn.count + l.number;
}
