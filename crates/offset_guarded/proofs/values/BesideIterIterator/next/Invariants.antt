use Rattle.std.proofs.Common.{◌≡◌, length}
use Rattle.offset_guarded.specs.Values.{entries}
use Rattle.offset_guarded.proofs.values.BesideIterIterator.next.Given as goal

-- only cells without a value were passed over
abbrev pub invariant-loop-cell : goal.invariant-loop-cell
invariant-loop-cell g l = (l.self-inside.left ≡ length (entries l.self-inside.cells.now)) × (entries l.self-inside.cells.now ≡ l.fn.self)

abbrev pub decreases-loop-cell : goal.decreases-loop-cell
decreases-loop-cell g l = length l.self-inside.cells.now
