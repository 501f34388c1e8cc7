use Rattle.std.proofs.Common.{◌≡◌, take, length, vec_capacity, max}
use Rattle.offset_guarded.proofs.serials.Serials.try_clone.Given as goal

-- the cells so far
abbrev pub invariant-loop-name : goal.invariant-loop-name
invariant-loop-name l = record {
  cells : l.cells.items ≡ take l.name l.self.cells;
  room : vec_capacity l.cells ≡ max (length l.self.cells) l.names;
}
