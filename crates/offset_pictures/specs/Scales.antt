-- Numbers along an axis, and the round numbers beside it: in numbers alone, since the contracts of `axes.rt` cite them.
use Rattle.std.specs.Prelude.{ℕ, ◌*◌, ◌/◌, List, [], ◌∷◌, min, nat_le, if◌then◌else◌}

-- how far from the value 0 a value is, on an axis of this length with this largest value; one beyond it lies where that
-- does
abbrev pub along : ℕ → ℕ → ℕ → ℕ
along span most value = min value most * span / most

-- the round numbers that 32 bits hold
abbrev pub round_numbers : List ℕ
round_numbers =
    1 ∷ 2 ∷ 5 ∷ 10 ∷ 20 ∷ 50 ∷ 100 ∷ 200 ∷ 500 ∷ 1000 ∷ 2000 ∷ 5000 ∷ 10000 ∷ 20000 ∷ 50000 ∷ 100000 ∷ 200000 ∷ 500000 ∷ 1000000 ∷ 2000000 ∷ 5000000
    ∷ 10000000 ∷ 20000000 ∷ 50000000 ∷ 100000000 ∷ 200000000 ∷ 500000000 ∷ 1000000000 ∷ 2000000000 ∷ []

-- the first of these numbers of which `count` add up to at least `most`; the last round number where there is none
abbrev pub first_step : ℕ → ℕ → List ℕ → ℕ
first_step most count [] = 2000000000
first_step most count (step ∷ steps) = if nat_le most (step * count) then step else first_step most count steps

-- the smallest round number of which `count` add up to at least `most`
abbrev pub round_step : ℕ → ℕ → ℕ
round_step most count = first_step most count round_numbers
