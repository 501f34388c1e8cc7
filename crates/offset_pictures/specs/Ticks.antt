-- The round numbers on the axes of a plot. Lengths are in hundredths of a pixel.
use Rattle.std.specs.Prelude.{ℕ, zero, suc, ◌+◌, ◌-◌, ◌*◌, ◌/◌, List, [], ◌∷◌, ◌++◌, codes, flat_map}
use Rattle.offset_pictures.specs.declared.plots.Plot.{Plot}
use Rattle.offset_pictures.specs.Axes.{right_of, up_of}
use Rattle.offset_pictures.specs.Scales.{round_step}
use Rattle.offset_pictures.specs.Numerals.{grouped_text, pixels_text}
use Rattle.offset_pictures.specs.Plots.{bottom_of}

-- the first n multiples of a number, from 0 on
abbrev pub first_multiples : ℕ → ℕ → List ℕ
first_multiples step zero = []
first_multiples step (suc n) = first_multiples step n ++ n * step ∷ []

-- the multiples of a number from 0 to `last`
abbrev pub multiples_to : ℕ → ℕ → List ℕ
multiples_to step last = first_multiples step (last / step + 1)

-- a line across at a number of units, and the number beside it
abbrev pub units_tick : Plot → ℕ → List ℕ
units_tick p units =
    codes "<path class='grid' d='M" ++ pixels_text p.calls.start ++ codes " " ++ pixels_text (up_of p.units units) ++ codes "H" ++ pixels_text (p.calls.start + p.calls.span) ++ codes "'/>"
    ++ codes "<text class='end' x='" ++ pixels_text (p.calls.start - 800) ++ codes "' y='" ++ pixels_text (up_of p.units units + 500) ++ codes "'>" ++ grouped_text units ++ codes "</text>\n"

-- a line at each round number of units, of which there are at most `lines` beside 0
abbrev pub units_text : Plot → ℕ → List ℕ
units_text p lines = flat_map (units_tick p) (multiples_to (round_step p.units.most lines) p.units.most)

-- a mark below at a number of calls, and the number below it
abbrev pub calls_tick : Plot → ℕ → List ℕ
calls_tick p calls =
    codes "<path class='tick' d='M" ++ pixels_text (right_of p.calls calls) ++ codes " " ++ pixels_text (bottom_of p) ++ codes "v10'/>" ++ codes "<text class='middle' x='"
    ++ pixels_text (right_of p.calls calls) ++ codes "' y='" ++ pixels_text (bottom_of p + 2600) ++ codes "'>" ++ grouped_text calls ++ codes "</text>\n"

-- a mark at each round number of calls before the end of the axis, of which there are at most `marks` beside 0
abbrev pub calls_text : Plot → ℕ → List ℕ
calls_text p marks =
    flat_map (calls_tick p) (multiples_to (round_step p.calls.most marks) (p.calls.most - 1)) ++ codes "<text class='end' x='" ++ pixels_text (p.calls.start - 800) ++ codes "' y='"
    ++ pixels_text (bottom_of p + 2600) ++ codes "'>call</text>\n"

-- the numbers on both axes
abbrev pub axes_text : Plot → ℕ → ℕ → List ℕ
axes_text p lines marks = units_text p lines ++ calls_text p marks
