use Rattle.std.proofs.Common.{◌≡◌, ◌+◌, ◌*◌, ◌^◌, drop, slice_set}
use Rattle.offset_heaps.specs.Maxima.{IsAbove, IsTreeBut, cell}
use Rattle.offset_heaps.proofs.maxima.Maxima.set.Given as goal

-- only the cell above this place, which has this number, may be wrong
abbrev pub invariant-loop-level : goal.invariant-loop-level
invariant-loop-level l = record {
  above : IsAbove l.self-inside.height l._level l.place;
  tree : IsTreeBut l.place l.self-inside.height l.self-inside.cells.items;
  larger : l.larger ≡ cell l.place l.self-inside.cells.items;
  keys : drop (2 ^ l.self-inside.height) l.self-inside.cells.items ≡ slice_set l.fn.self.keys l.at l.key;
  height : l.self-inside.height ≡ l.fn.self.height;
  accesses : l.count ≡ l.fn.count + 2 + 3 * l._level;
}
