use Rattle.std.proofs.Common.{ℕ, ◌*◌}
use Rattle.std.specs.Int.{◌∣◌, IsGcd}
use Rattle.offset_guarded.proofs.step.common_divisor.Given as goal

-- the two numbers have the divisor of the first two, and what divides a multiple of those divides theirs
abbrev pub invariant-loop-rest : goal.invariant-loop-rest
invariant-loop-rest l = record {
  common : (g : ℕ) → IsGcd l.divisor l.rest g → IsGcd l.fn.first l.fn.second g;
  multiples : (z n : ℕ) → z ∣ l.fn.first * n → z ∣ l.fn.second * n → (z ∣ l.divisor * n) × (z ∣ l.rest * n);
}

abbrev pub decreases-loop-rest : goal.decreases-loop-rest
decreases-loop-rest l = l.rest
