use Rattle.std.proofs.Common.{◌<◌, ◌≤◌, ℕ}
use Rattle.offset_allocator.specs.Ranges as named
use Rattle.offset_guarded.specs.Guard.{cell}
use Rattle.offset_guarded.proofs.restore.live_without_serial.Given as goal

-- each live name so far has a serial
abbrev pub invariant-loop-name : goal.invariant-loop-name
invariant-loop-name g l = (x : ℕ) → x < l.name → named.IsLive x l.space → 1 ≤ cell x l.serials.cells
