-- Where a value is on an axis, in hundredths of a pixel.
use Rattle.std.specs.Prelude.{◌≡◌, ℕ, ◌+◌, ◌-◌, ◌*◌, ◌/◌}
use Rattle.offset_pictures.specs.declared.axes.Axis.{Axis}
use Rattle.offset_pictures.specs.Scales.{along}

-- where a value lies, on an axis that runs to the right, from 0 at its start, and on one that runs upwards, to the largest
-- value at its start: y counts down from the top of the picture
abbrev pub right_of : Axis → ℕ → ℕ
right_of a value = a.start + along a.span a.most value

abbrev pub up_of : Axis → ℕ → ℕ
up_of a value = a.start + a.span - along a.span a.most value

-- a length in whole tenths of a pixel
abbrev pub in_tenths : ℕ → ℕ
in_tenths length = length / 10 * 10

-- to a tenth of a pixel: the x of a state, and of the call that begins it, on an axis of calls, and the y of a value, on an
-- axis of units
abbrev pub x_of : Axis → ℕ → ℕ
x_of calls state = in_tenths (right_of calls state)

abbrev pub y_of : Axis → ℕ → ℕ
y_of units value = in_tenths (up_of units value)

-- the left or upper end of an axis, how long it is, and the largest value that it shows
abbrev pub IsAxis : ℕ → ℕ → ℕ → Axis → Type 0
IsAxis start span most a = (a.start ≡ start) × (a.span ≡ span) × (a.most ≡ most)
