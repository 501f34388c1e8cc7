use Rattle.std.proofs.Common.{◌≡◌, ◌-◌, ℕ, vec_capacity, vec_len}
use Rattle.offset_guarded.specs.Guard.{cell}
use Rattle.offset_guarded.proofs.Guards.{IsCovered}
use Rattle.offset_guarded.proofs.serials.Serials.cover.Given as goal

-- each cell is as it was, and those added are 0
abbrev pub invariant-loop-self : goal.invariant-loop-self
invariant-loop-self l = record {
  cells : (x : ℕ) → cell x l.self-inside.cells.items ≡ cell x l.fn.self.cells;
  table : IsCovered l.names l.fn.self.cells l.self-inside.cells.items;
  given : l.self-inside.given ≡ l.fn.self.given;
  room : vec_capacity l.self-inside.cells ≡ l.fn.self.room;
}

abbrev pub decreases-loop-self : goal.decreases-loop-self
decreases-loop-self l = l.names - vec_len l.self-inside.cells
