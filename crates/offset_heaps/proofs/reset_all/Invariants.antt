use Rattle.std.proofs.Common.{◌≡◌, ℕ, ◌<◌, ◌≤◌, length}
use Rattle.offset_heaps.specs.{Heaps.slot, Slots.ResetsIn, Soundness.IsNoted, Soundness.IsWide}
use Rattle.offset_heaps.proofs.reset_all.Given as goal

-- the heaps so far are reset
abbrev pub invariant-loop-number : goal.invariant-loop-number
invariant-loop-number g l = record {
  done : (k : ℕ) → k < l.number → ResetsIn (slot k l.fn.slots) (slot k l.slots);
  left : (k : ℕ) → l.number ≤ k → slot k l.slots ≡ slot k l.fn.slots;
  len : length l.slots ≡ length l.fn.slots;
  wide : IsWide l.slots l.index;
  noted : (k : ℕ) → IsNoted l.limits l.slots l.index k;
  levels : l.index.one.height ≡ l.fn.index.one.height;
}
