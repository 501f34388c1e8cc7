use Rattle.std.proofs.Common.{ℕ, ◌+◌, ◌<◌, ◌≤◌}
use Rattle.offset_heaps.specs.Relocating.{TakesUnits}
use Rattle.offset_heaps.proofs.slots.Slots.taker.Given as goal

-- no heap so far takes them
abbrev pub invariant-loop-number : goal.invariant-loop-number
invariant-loop-number g l = record {
  none : (k : ℕ) → l.from ≤ k → k < l.number → TakesUnits l.limits l.own l.size l.align l.live l.self k → ⊥;
  accesses : l.count + l.from ≤ l.fn.count + l.number;
}
