use Rattle.std.proofs.Common.{◌≡◌, ℕ, ◌<◌, get_or, vec_len}
use Rattle.offset_pictures.specs.Axes.{in_tenths, right_of}
use Rattle.offset_pictures.proofs.step_lines.xs_of.Given as goal

-- the x of each state so far
abbrev pub invariant-loop-state : goal.invariant-loop-state
invariant-loop-state l = (vec_len l.xs ≡ l.state) × ((k : ℕ) → k < l.state → get_or l.xs.items k 0 ≡ in_tenths (right_of l.calls k))
