-- The step of a space: ranges that move by multiples of it keep the alignments that were asked for.
use Rattle.std.specs.Prelude.{ℕ, ◌≤◌}
use Rattle.std.specs.Int.{◌∣◌}

-- c is the least common multiple of a and b, or 0 where that has more than 32 bits: 0 is a multiple of every number
pub record IsJoined (a b c : ℕ) : Type 0 where
  pub fits : c ≤ 4294967295
  pub first : a ∣ c
  pub second : b ∣ c
  -- it divides every number of 32 bits that both divide
  pub least : (n : ℕ) → n ≤ 4294967295 → a ∣ n → b ∣ n → c ∣ n
