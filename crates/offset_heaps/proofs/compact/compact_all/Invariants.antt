use Rattle.std.proofs.Common.{◌≡◌, ◌↔◌, ℕ, true, ◌+◌, ◌*◌, ◌<◌, ◌≤◌, drop, length}
use Rattle.std.specs.List.{FoldsTo}
use Rattle.offset_heaps.specs.{Changing.IsCalledAt, Changing.CompactsSlot, Changing.IsCompactible, Changing.moves_from, Heaps.slot, Soundness.IsNoted, Soundness.IsWide}
use Rattle.offset_heaps.proofs.compact.compact_all.Given as goal

-- the heaps so far are compacted, and what is left to be called is what remains of all moves
abbrev pub invariant-loop-number : goal.invariant-loop-number
invariant-loop-number g l = record {
  callable : goal.F-IsAlwaysCallable g l.moved;
  done : (k : ℕ) → k < l.number → CompactsSlot (slot k l.fn.slots) (slot k l.slots);
  all : (l.all ≡ true) ↔ ((k : ℕ) → k < l.number → IsCompactible (slot k l.fn.slots));
  left : (k : ℕ) → l.number ≤ k → slot k l.slots ≡ slot k l.fn.slots;
  moves : (last : _) → FoldsTo (IsCalledAt g.T.Index.NonMax.NodeIndexNonMax.number (λ f k range h. goal.F-step g f k range tt h)) l.moved (moves_from l.number (drop l.number l.fn.slots)) last
      → FoldsTo (IsCalledAt g.T.Index.NonMax.NodeIndexNonMax.number (λ f k range h. goal.F-step g f k range tt h)) l.fn.moved (moves_from 0 l.fn.slots) last;
  len : length l.slots ≡ length l.fn.slots;
  wide : IsWide l.slots l.index;
  noted : (k : ℕ) → IsNoted l.limits l.slots l.index k;
  levels : l.index.one.height ≡ l.fn.index.one.height;
  accesses : l.count ≤ l.fn.count + l.number * (12 * l.fn.index.one.height + 10);
}
