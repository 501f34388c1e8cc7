use Rattle.std.proofs.Common.{◌≡◌, ◌+◌}
use Rattle.offset_heaps.specs.Maxima.{IsFirstInLevel}
use Rattle.offset_heaps.proofs.maxima.Maxima.first_at_least.Given as goal

abbrev pub invariant-loop-level : goal.invariant-loop-level
invariant-loop-level l = record {
  is_first : IsFirstInLevel l.least l._level l.place l.self-inside.cells.items;
  accesses : l.count ≡ l.fn.count + 1 + l._level;
}
