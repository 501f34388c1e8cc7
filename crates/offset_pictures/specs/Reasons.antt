-- What a picture says of refused calls. Lengths are in hundredths of a pixel.
use Rattle.std.specs.Prelude.{◌≡◌, ◌≢◌, ℕ, ◌+◌, ◌-◌, ◌*◌, ◌/◌, All, List, [], ◌∷◌, ◌++◌, codes, flat_map, length, nat_eq, nat_le, slice_index_or, if◌then◌else◌}
use Rattle.std.specs.Fmt.{decimal}
use Rattle.offset_allocator.specs.Classes.{value, up}
use Rattle.offset_allocator.specs.Requests.{refusal_words, units_needed}
use Rattle.offset_allocator.specs.declared.reports.Refusal.{Refusal}
use Rattle.offset_allocator.specs.declared.reports.Refusal.TheVariants.{Nodes}
use Rattle.offset_allocator.specs.declared.reports.StorageReport.{StorageReport}
use Rattle.offset_pictures.specs.declared.axes.Axis.{Axis}
use Rattle.offset_pictures.specs.declared.plots.Plot.{Plot}
use Rattle.offset_pictures.specs.declared.reasons.Spot.{Spot}
use Rattle.offset_pictures.specs.declared.refusing.Asked.{Asked}
use Rattle.offset_pictures.specs.declared.refusing.Asked.TheVariants.{Alloc, Align, Extend, Shrink, Grow}
use Rattle.offset_pictures.specs.declared.refusing.Reason.{Reason}
use Rattle.offset_pictures.specs.declared.refusing.Reason.TheVariants.{Request, TooManyUnits, NoRoom, Smaller, Larger}
use Rattle.offset_pictures.specs.declared.refusing.Refused.{Refused}
use Rattle.offset_pictures.specs.Axes.{right_of}
use Rattle.offset_pictures.specs.Numerals.{counted_from_1, pixels_text}
use Rattle.offset_pictures.specs.Plots.{bottom_of}

-- the largest value of a class that a block can have: no space grants a request for more units
abbrev pub largest_class : ℕ
largest_class = 4026531840

-- what units are rounded up to, where a request for so many can be granted in any space at all
abbrev pub rounded_text : ℕ → List ℕ
rounded_text units = if nat_le units largest_class then codes ", rounded up to " ++ decimal (value (up units)) else []

-- what a call asked for
abbrev pub asked_text : Asked → List ℕ
asked_text (Alloc n) = codes "alloc " ++ decimal n ++ rounded_text n
asked_text (Align n align) = codes "align " ++ decimal n ++ codes " " ++ decimal align ++ rounded_text (units_needed n align)
asked_text (Extend more) = codes "extend " ++ decimal more
asked_text (Shrink k n) = codes "shrink " ++ decimal k ++ codes " " ++ decimal n
asked_text (Grow k n) = codes "grow " ++ decimal k ++ codes " " ++ decimal n

-- what is free; nothing where nodes are too few
abbrev pub report_text : Refusal → StorageReport → List ℕ
report_text Nodes r = []
report_text other r = codes "; largest free region " ++ decimal r.largest_free_region ++ codes ", of " ++ decimal r.total_free_space ++ codes " free"

-- why a call was refused
abbrev pub reason_text : Reason → StorageReport → List ℕ
reason_text (Request why) r = refusal_words why ++ report_text why r
reason_text TooManyUnits r = codes "a space has at most 4294967295 units"
reason_text NoRoom r = codes "too few units directly after the range are free"
reason_text Smaller r = codes "the range has fewer units"
reason_text Larger r = codes "the range has more units"

-- the report after so many calls
abbrev pub report_after : List StorageReport → ℕ → StorageReport
report_after reports s = slice_index_or reports s (record { total_free_space = 0; largest_free_region = 0 })

-- what is said of a refused call: what it asked for, and why it was refused, with the report that it found
abbrev pub said_text : List StorageReport → Refused → List ℕ
said_text reports r = codes "call " ++ decimal (counted_from_1 r.call) ++ codes ": " ++ asked_text r.asked ++ codes ": " ++ reason_text r.why (report_after reports r.call)

-- ---- the calls of one pixel

-- where the pixel begins in which the call with this number from 0 lies
abbrev pub pixel_of : Axis → ℕ → ℕ
pixel_of calls call = right_of calls (counted_from_1 call) / 100 * 100

-- the spot of one call, whose pixel begins at `left`
abbrev pub one_spot : ℕ → Refused → Spot
one_spot left r = record { left = left; first = r; more = 0 }

-- a spot before others: it joins the next one, where both are of one pixel
abbrev pub spot_before : Spot → List Spot → List Spot
spot_before a [] = a ∷ []
spot_before a (b ∷ bs) = if nat_eq a.left b.left then record { left = a.left; first = a.first; more = a.more + b.more + 1 } ∷ bs else a ∷ b ∷ bs

-- refused calls by pixels: neighbours that lie in one pixel are together
abbrev pub spots_of : Axis → List Refused → List Spot
spots_of calls [] = []
spots_of calls (r ∷ rs) = spot_before (one_spot (pixel_of calls r.call) r) (spots_of calls rs)

-- how many calls there are beside the first, if there are any
abbrev pub more_text : ℕ → List ℕ
more_text more = if nat_eq more 0 then [] else codes "; " ++ decimal more ++ codes " more refused here"

-- the spot of the marks of a pixel, from this y down, with a title: what is said of the first of its calls
abbrev pub spot_text : ℕ → List StorageReport → Spot → List ℕ
spot_text y reports s =
    codes "<rect x='" ++ pixels_text (s.left - 100) ++ codes "' y='" ++ pixels_text y ++ codes "' width='3' height='12'><title>" ++ said_text reports s.first ++ more_text s.more
    ++ codes "</title></rect>\n"

-- why these calls were refused, below the plot, where these are the reports of all states
abbrev pub reasons_text : Plot → List StorageReport → List Refused → List ℕ
reasons_text p reports refused = codes "<g class='why'>\n" ++ flat_map (spot_text (bottom_of p) reports) (spots_of p.calls refused) ++ codes "</g>\n"

-- ---- every refused call is reported

-- the first of these spots, if there is one, is of another pixel
abbrev pub BeginElsewhere : ℕ → List Spot → Type 0
BeginElsewhere left [] = Unit {0}
BeginElsewhere left (s ∷ ss) = left ≢ s.left

-- The spots report the refused calls in their order, each of a run of calls that lie in its pixel: of the first one, and
-- how many there are after it. The next spot is of another pixel.
abbrev pub TellOf : Axis → List Refused → List Spot → Type 0
TellOf calls refused [] = refused ≡ []
TellOf calls refused (s ∷ ss) = (others rest : List Refused) × (refused ≡ s.first ∷ (others ++ rest)) × (s.more ≡ length others)
    × All (λ r. pixel_of calls r.call ≡ s.left) (s.first ∷ others) × BeginElsewhere s.left ss × TellOf calls rest ss

-- each refused call is reported by one spot
abbrev pub EachRefusalIsToldOf : Type 0
EachRefusalIsToldOf = (calls : Axis) (refused : List Refused) → TellOf calls refused (spots_of calls refused)
