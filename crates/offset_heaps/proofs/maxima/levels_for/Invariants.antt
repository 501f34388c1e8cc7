use Rattle.std.proofs.Common.{◌≡◌, ℕ, ◌^◌, ◌≤◌, ◌-◌}
use Rattle.offset_heaps.proofs.maxima.levels_for.Given as goal

abbrev pub invariant-loop-height : goal.invariant-loop-height
invariant-loop-height l = record {
  power : l.places ≡ 2 ^ l.height;
  low : l.height ≤ 32;
  small : l.places ≤ 2 ^ 32;
  least : (bits : ℕ) → l.count ≤ 2 ^ bits → l.height ≤ bits;
}

abbrev pub decreases-loop-height : goal.decreases-loop-height
decreases-loop-height l = 32 - l.height
