use Rattle.std.proofs.Common.{◌<◌, ◌≤◌, ℕ, get_or}
use Rattle.offset_guarded.proofs.serials.Serials.first_above.Given as goal

-- no serial so far is above
abbrev pub invariant-loop-name : goal.invariant-loop-name
invariant-loop-name l = (x : ℕ) → x < l.name → get_or l.self.cells x 0 ≤ l.self.given
