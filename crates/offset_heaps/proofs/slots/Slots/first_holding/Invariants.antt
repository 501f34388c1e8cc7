use Rattle.std.proofs.Common.{ℕ, ◌+◌, ◌<◌, ◌≤◌}
use Rattle.offset_allocator.specs.Requests.{blocks_needed, units_needed}
use Rattle.offset_heaps.specs.{Heaps.room_of, Heaps.slot, Slots.CanHoldIn}
use Rattle.offset_heaps.proofs.slots.Slots.first_holding.Given as goal

-- no heap so far holds it, nor has room for it
abbrev pub invariant-loop-number : goal.invariant-loop-number
invariant-loop-number g l = record {
  none : (k : ℕ) → k < l.number → CanHoldIn l.limits k l.size l.align (slot k l.self) → ⊥;
  less : (k : ℕ) → k < l.number → room_of l.limits k (blocks_needed l.align) (slot k l.self) < units_needed l.size l.align;
  accesses : l.count ≤ l.fn.count + l.number;
}
