use Rattle.std.proofs.Common.{◌≡◌, ◌+◌, ◌*◌, ◌≤◌, take}
use Rattle.offset_heaps.specs.Heaps.{AreTotals}
use Rattle.offset_heaps.proofs.HeapsOf.totals.Given as goal

-- the numbers of the heaps so far
abbrev pub invariant-loop-number : goal.invariant-loop-number
invariant-loop-number g l = record {
  so_far : AreTotals l.totals l.self-inside.limits (take l.number l.self-inside.slots);
  few : l.totals.heaps ≤ l.number;
  small : l.totals.units ≤ l.number * 4294967295;
  add_up : l.totals.live_units + l.totals.free_units ≡ l.totals.units;
}
