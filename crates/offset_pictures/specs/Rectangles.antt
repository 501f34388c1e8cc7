-- The rectangles of lives, as they are written.
use Rattle.std.specs.Prelude.{◌≡◌, ℕ, zero, suc, ◌+◌, ◌-◌, ◌&&◌, List, [], ◌∷◌, ◌++◌, Option, Some, None, IsPermutation, codes, filter, flat_map, length, map, max, nat_eq, nat_le, nat_lt}
use Rattle.std.specs.Prelude.{if◌then◌else◌}
use Rattle.std.specs.Bool.{MatchBool}
use Rattle.std.specs.Fmt.{decimal}
use Rattle.std.specs.List.{zip}
use Rattle.offset_pictures.specs.declared.living.Life.{Life}
use Rattle.offset_pictures.specs.declared.plots.Plot.{Plot}
use Rattle.offset_pictures.specs.declared.rectangles.Frame.{Frame}
use Rattle.offset_pictures.specs.declared.shapes.Shape.{Shape}
use Rattle.offset_pictures.specs.Merging.{AreMerged}
use Rattle.offset_pictures.specs.Numerals.{counted_from_1, pixels_text}
use Rattle.offset_pictures.specs.Shapes.{age_of, shape_of}

-- a rectangle as it is drawn: as wide and as high, but at least 0.3 pixels, from its left and its lower edge on
abbrev pub frame_of : Shape → Frame
frame_of s = record { x = s.left; y = s.bottom - max (s.bottom - s.top) 30; width = max (s.right - s.left) 30; height = max (s.bottom - s.top) 30 }

-- the beginning of a rectangle's element: with an edge where it is at least 3 pixels wide and high
abbrev pub rectangle_text : Frame → List ℕ
rectangle_text f =
    codes "<rect x='" ++ pixels_text f.x ++ codes "' y='" ++ pixels_text f.y ++ codes "' width='" ++ pixels_text f.width ++ codes "' height='" ++ pixels_text f.height ++ codes "'"
    ++ (if nat_le 300 f.width && nat_le 300 f.height then codes " class='edge'" else [])

-- the title of a life, where this is the number of all calls, and the end of its element
abbrev pub title_text : Life → ℕ → List ℕ
title_text l calls =
    codes "<title>grant " ++ decimal l.number ++ codes ", offset " ++ decimal l.offset ++ codes ", size " ++ decimal l.size ++ codes ", calls " ++ decimal (counted_from_1 l.first) ++ codes "-"
    ++ (if nat_lt calls (counted_from_1 l.last) then codes "end" else decimal (counted_from_1 l.last)) ++ codes "</title></rect>\n"

-- a rectangle without a title
abbrev pub plain_text : Shape → List ℕ
plain_text s = rectangle_text (frame_of s) ++ codes "/>\n"

-- a rectangle with the title of its life, where this is the number of all calls
abbrev pub titled_text : ℕ → Shape × Life → List ℕ
titled_text calls r = rectangle_text (frame_of r.0) ++ codes ">" ++ title_text r.1 calls

-- the rectangles of an age, in the order of the list
abbrev pub plain_of_age : List Shape → ℕ → List ℕ
plain_of_age shapes age = flat_map plain_text (filter (λ s. nat_eq s.age age) shapes)

-- the same where each has the title of its own life
abbrev pub titled_of_age : ℕ → List Shape → List Life → ℕ → List ℕ
titled_of_age calls shapes lives age = flat_map (titled_text calls) (filter (λ r. nat_eq r.0.age age) (zip shapes lives))

-- the group of an age, which holds this text; its class counts from 1
abbrev pub age_text : (ℕ → List ℕ) → ℕ → List ℕ
age_text held age = codes "<g class='age" ++ decimal (age + 1) ++ codes "'>\n" ++ held age ++ codes "</g>\n"

-- the numbers below n, falling
abbrev pub falling_below : ℕ → List ℕ
falling_below zero = []
falling_below (suc n) = n ∷ falling_below n

-- a group for each of the eight ages, the longest lives first
abbrev pub ages_text : (ℕ → List ℕ) → List ℕ
ages_text held = flat_map (age_text held) (falling_below 8)

-- what is written for lives, by ages, the longest lives first, and within an age in the order of the list: of more than
-- 20,000 lives the merged rectangles without titles, and `merged` is how many they are; else each life's rectangle with its
-- title
abbrev pub AreRectangles : Plot → List Life → ℕ → Option ℕ → List ℕ → Type 0
AreRectangles plot lives calls merged text = MatchBool (nat_lt 20000 (length lives))
    ((shapes : List Shape) × AreMerged plot lives shapes × (merged ≡ Some (length shapes)) × (text ≡ ages_text (plain_of_age shapes)))
    ((merged ≡ None) × (text ≡ ages_text (titled_of_age calls (map (shape_of plot) lives) lives)))

-- ---- every life has its rectangle

-- the lives of an age, in the order of the list
abbrev pub lives_of_age : List Life → ℕ → List Life
lives_of_age lives age = filter (λ l. nat_eq (age_of l.lived) age) lives

-- the group of an age has a rectangle with its title for each life of this age, and the groups have each life once
abbrev pub EachLifeHasARectangle : Type 0
EachLifeHasARectangle =
    (plot : Plot) (calls : ℕ) (lives : List Life)
    → ((age : ℕ) → titled_of_age calls (map (shape_of plot) lives) lives age ≡ flat_map (λ l. titled_text calls (shape_of plot l, l)) (lives_of_age lives age))
    × IsPermutation lives (flat_map (lives_of_age lives) (falling_below 8))

-- where they are merged, the groups have each rectangle once
abbrev pub MergedRectanglesAreDrawn : Type 0
MergedRectanglesAreDrawn =
    (plot : Plot) (lives : List Life) (shapes : List Shape)
    → AreMerged plot lives shapes → IsPermutation shapes (flat_map (λ age. filter (λ s. nat_eq s.age age) shapes) (falling_below 8))
