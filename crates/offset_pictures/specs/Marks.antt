-- The marks of refused calls, below a plot. Lengths are in hundredths of a pixel.
use Rattle.std.specs.Prelude.{ℕ, ◌+◌, ◌<◌, ◌≤◌, List, [], ◌∷◌, ◌++◌, All, Contains, codes, flat_map, length, map, nat_eq, if◌then◌else◌}
use Rattle.offset_allocator.specs.declared.reports.StorageReport.{StorageReport}
use Rattle.offset_pictures.specs.declared.axes.Axis.{Axis}
use Rattle.offset_pictures.specs.declared.plots.Plot.{Plot}
use Rattle.offset_pictures.specs.declared.refusing.Refused.{Refused}
use Rattle.offset_pictures.specs.Axes.{right_of, x_of}
use Rattle.offset_pictures.specs.Numerals.{counted_from_1, pixels_text}
use Rattle.offset_pictures.specs.Plots.{bottom_of}
use Rattle.offset_pictures.specs.Reasons.{reasons_text}

-- what is after a number, without the next one where it is equal
abbrev pub after_equal : ℕ → List ℕ → List ℕ
after_equal n [] = []
after_equal n (m ∷ ms) = if nat_eq n m then ms else m ∷ ms

-- one of each run of equal numbers
abbrev pub one_of_each : List ℕ → List ℕ
one_of_each [] = []
one_of_each (n ∷ ns) = n ∷ after_equal n (one_of_each ns)

-- a mark at an x, from this y down
abbrev pub mark_text : ℕ → ℕ → List ℕ
mark_text y x = codes "M" ++ pixels_text x ++ codes " " ++ pixels_text y ++ codes "v12"

-- the x of each mark of these calls, which are counted from 0: one for neighbours at one x
abbrev pub marked_xs : Axis → List Refused → List ℕ
marked_xs calls marked = one_of_each (map (λ r. x_of calls (counted_from_1 r.call)) marked)

-- the marks of these calls, from this y down
abbrev pub marks_text : Axis → ℕ → List Refused → List ℕ
marks_text calls y marked = flat_map (mark_text y) (marked_xs calls marked)

-- the marks of refused calls as an element, from the lower end of the plot down, and why they were refused; where there are
-- none, nothing
abbrev pub refusals_text : Plot → List StorageReport → List Refused → List ℕ
refusals_text p reports refused =
    if nat_eq (length refused) 0 then []
    else codes "<path class='refusal' d='" ++ marks_text p.calls (bottom_of p) refused ++ codes "'/>\n" ++ reasons_text p reports refused

-- a mark is at this x, or less than a tenth of a pixel to the left of it
abbrev pub IsMarked : List ℕ → ℕ → Type 0
IsMarked marks x = (mark : ℕ) × Contains marks mark × (mark ≤ x) × (x < mark + 10)

-- whichever calls are refused, each has its mark
abbrev pub EachRefusalIsMarked : Type 0
EachRefusalIsMarked = (calls : Axis) (refused : List Refused) → All (λ r. IsMarked (marked_xs calls refused) (right_of calls (counted_from_1 r.call))) refused
