use Rattle.std.proofs.Common.{◌≡◌, ℕ, ◌+◌, ◌<◌, ◌≤◌, None}
use Rattle.offset_heaps.specs.Heaps.{slot}
use Rattle.offset_heaps.proofs.slots.Slots.heap_from.Given as goal

-- no number so far has a heap
abbrev pub invariant-loop-number : goal.invariant-loop-number
invariant-loop-number g l = record {
  none : (k : ℕ) → l.start ≤ k → k < l.number → slot k l.self ≡ None;
  accesses : l.count + l.start ≤ l.fn.count + l.number;
}
