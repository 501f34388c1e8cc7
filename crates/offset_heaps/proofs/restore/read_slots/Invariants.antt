use Rattle.std.proofs.Common.{◌≡◌, ◌+◌, ◌<◌, ℕ, length}
use Rattle.offset_guarded.specs.Numbers.{number_at}
use Rattle.offset_heaps.specs.{Heaps.slot, State.IsHeapReadAt}
use Rattle.offset_heaps.proofs.restore.read_slots.Given as goal

-- the heaps so far are read
abbrev pub invariant-loop-k : goal.invariant-loop-k
invariant-loop-k g l = record {
  long : length l.slots ≡ l.count;
  read : (k : ℕ) → k < l.k → IsHeapReadAt l.limits g.T.Index.NodeIndex.MAX l.made l.most_allocs k (number_at l.bytes (10 + k)) (number_at l.bytes (11 + k)) l.states (slot k l.slots);
}
