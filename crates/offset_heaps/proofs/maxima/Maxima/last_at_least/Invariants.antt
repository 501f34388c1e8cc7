use Rattle.std.proofs.Common.{◌≡◌, ◌+◌}
use Rattle.offset_heaps.specs.Maxima.{IsLastInLevel}
use Rattle.offset_heaps.proofs.maxima.Maxima.last_at_least.Given as goal

abbrev pub invariant-loop-level : goal.invariant-loop-level
invariant-loop-level l = record {
  is_last : IsLastInLevel l.least l._level l.last l.self-inside.cells.items;
  accesses : l.count ≡ l.fn.count + 1 + l._level;
}
