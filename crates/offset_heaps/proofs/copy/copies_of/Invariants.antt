use Rattle.std.proofs.Common.{◌≡◌, ℕ, ◌<◌, length}
use Rattle.offset_heaps.specs.{Heaps.slot, State.quiet}
use Rattle.offset_heaps.proofs.copy.copies_of.Given as goal

-- the heaps so far are copied
abbrev pub invariant-loop-number : goal.invariant-loop-number
invariant-loop-number g l = record {
  long : length l.copies ≡ l.count;
  copied : (k : ℕ) → k < l.number → slot k l.copies ≡ quiet (slot k l.slots);
}
