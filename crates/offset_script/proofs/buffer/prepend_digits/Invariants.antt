use Rattle.std.proofs.Common.{◌≡◌, ◌+◌, ◌<◌, ◌≤◌, ◌++◌, length, drop}
use Rattle.std.specs.Fmt.{decimal}
use Rattle.offset_script.proofs.buffer.prepend_digits.Given as goal

-- the digits that are left, and the bytes after them, are the number and what comes after it
abbrev pub invariant-loop-rest : goal.invariant-loop-rest
invariant-loop-rest g l = (length l.room ≡ g.row.ROOM) × (l.at < l.end) × (l.end ≤ l.at + 20) × (length (decimal l.rest) + l.end ≤ l.at + 21)
    × (decimal l.rest ++ drop (l.at + 1) l.room ≡ decimal l.n ++ drop l.end l.fn.room)

abbrev pub decreases-loop-rest : goal.decreases-loop-rest
decreases-loop-rest g l = l.rest
