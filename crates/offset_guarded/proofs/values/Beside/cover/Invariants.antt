use Rattle.std.proofs.Common.{◌≡◌, ◌-◌, ◌≤◌, length, vec_capacity, vec_len}
use Rattle.std.specs.Prelude.{max}
use Rattle.offset_guarded.specs.Values.{SameEntries, entries}
use Rattle.offset_guarded.proofs.values.Beside.cover.Given as goal

-- no entry is another one, and so many there are
abbrev pub invariant-loop-self : goal.invariant-loop-self
invariant-loop-self g l = record {
  same : SameEntries l.fn.self l.self-inside.cells.items;
  counted : l.self-inside.kept ≡ length (entries l.self-inside.cells.items);
  room : l.names ≤ vec_capacity l.self-inside.cells;
  long : length l.fn.self ≤ length l.self-inside.cells.items;
  short : length l.self-inside.cells.items ≤ max (length l.fn.self) l.names;
}

abbrev pub decreases-loop-self : goal.decreases-loop-self
decreases-loop-self g l = l.names - vec_len l.self-inside.cells
