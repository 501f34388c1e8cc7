use Rattle.std.proofs.Common.{◌≡◌, ℕ, ◌<◌, ◌≤◌, ◌⊎◌}
use Rattle.offset_heaps.specs.Soundness.{IsNoted, IsWide}
use Rattle.offset_heaps.proofs.HeapsOf.with_realms.Given as goal

-- the numbers so far are noted, and those behind the last
abbrev pub invariant-loop-number : goal.invariant-loop-number
invariant-loop-number g l = record {
  wide : IsWide l.slots l.index;
  noted : (k : ℕ) → (k < l.number) ⊎ (l.count ≤ k) → IsNoted l.limits l.slots l.index k;
  levels : l.index.one.height ≡ l.initial.index.one.height;
}
