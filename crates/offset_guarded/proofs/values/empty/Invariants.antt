use Rattle.std.proofs.Common.{◌≡◌, None, length}
use Rattle.std.specs.Prelude.{replicate, take}
use Rattle.offset_guarded.proofs.values.empty.Given as goal

-- the cells before this one have nothing
abbrev pub invariant-loop-place : goal.invariant-loop-place
invariant-loop-place g l = (take l.place l.cells.items ≡ replicate l.place None) × (length l.cells.items ≡ length l.fn.cells.items)
