-- How the rectangles of many lives are merged. Lengths are in hundredths of a pixel.
use Rattle.std.specs.Prelude.{◌≡◌, ℕ, ◌+◌, ◌-◌, ◌*◌, ◌/◌, ◌%◌, ◌^◌, ◌≤◌, Bool, ◌&&◌, ◌||◌, not, List, [], ◌∷◌, ◌++◌, IsPermutation, filter, map, nat_eq, nat_lt, nat_le, min, max, if◌then◌else◌}
use Rattle.std.specs.List.{list_any}
use Rattle.std.specs.List.Sorted.{IsNonDecreasing}
use Rattle.offset_pictures.specs.declared.living.Life.{Life}
use Rattle.offset_pictures.specs.declared.plots.Plot.{Plot}
use Rattle.offset_pictures.specs.declared.shapes.Shape.{Shape}
use Rattle.offset_pictures.specs.Shapes.{shape_of}

-- thinner than a tenth of a pixel
abbrev pub is_tiny : Shape → Bool
is_tiny s = nat_lt (s.right - s.left) 10 || nat_lt (s.bottom - s.top) 10

-- the rectangle with its edges at whole tenths of a pixel around it
abbrev pub round_out : Shape → Shape
round_out s = record { top = s.top / 10 * 10; bottom = (s.bottom + 9) / 10 * 10; age = s.age; left = s.left / 10 * 10; right = (s.right + 9) / 10 * 10 }

-- a number for a rectangle with its edges at whole tenths of a pixel: the numbers rise with the upper edge, then with the
-- lower one, the age, the left edge and the right one
abbrev pub key_of : Shape → ℕ
key_of s = (((s.top / 10 * 2 ^ 14 + s.bottom / 10) * 8 + s.age) * 2 ^ 14 + s.left / 10) * 2 ^ 14 + s.right / 10

-- the rectangle of a number: its edges in tenths of a pixel, with 14 bits each, and 3 bits of its age
unfoldable pub shape_of_key : ℕ → Shape
shape_of_key key = record { top = key / 2 ^ 45 * 10; bottom = key / 2 ^ 31 % 2 ^ 14 * 10; age = key / 2 ^ 28 % 8; left = key / 2 ^ 14 % 2 ^ 14 * 10; right = key % 2 ^ 14 * 10 }

-- an edge at a whole tenth of a pixel, on the picture
abbrev pub IsAtTenth : ℕ → Type 0
IsAtTenth edge = (edge ≤ 120000) × (edge / 10 * 10 ≡ edge)

-- a rectangle, with its edges rounded where it is tiny
abbrev pub rounded_if_tiny : Shape → Shape
rounded_if_tiny s = if is_tiny s then round_out s else s

-- two rectangles of one row touch or overlap; a row is what lies between an upper and a lower edge in the colour of an age
abbrev pub touch : Shape → Shape → Bool
touch a b = nat_eq a.top b.top && nat_eq a.bottom b.bottom && nat_eq a.age b.age && nat_le b.left a.right && nat_le a.left b.right

-- from the left edge of either to the right edge of either, in the row of the first
abbrev pub join : Shape → Shape → Shape
join a b = record a { left = min b.left a.left; right = max b.right a.right }

-- a point of a row: the edges and the age of the row, and how far to the right the point lies
pub record Point : Type 0 where
  pub top : ℕ
  pub bottom : ℕ
  pub age : ℕ
  pub across : ℕ

-- whether a rectangle is of the row of a point, and the point lies within it
abbrev pub covers : Point → Shape → Bool
covers p s = nat_eq s.top p.top && nat_eq s.bottom p.bottom && nat_eq s.age p.age && nat_le s.left p.across && nat_le p.across s.right

-- ---- the list of merged rectangles

-- a rectangle, as far as it has grown, and those after it: one that touches it is joined to it
abbrev pub merge_after : Shape → List Shape → List Shape
merge_after a [] = a ∷ []
merge_after a (b ∷ bs) = if touch a b then merge_after (join a b) bs else a ∷ merge_after b bs

-- rectangles, of which each that touches the one before it is joined to it
abbrev pub merge : List Shape → List Shape
merge [] = []
merge (a ∷ bs) = merge_after a bs

-- the rectangles of lives that are not tiny, and those that are, rounded
abbrev pub large_shapes : Plot → List Life → List Shape
large_shapes plot lives = filter (λ s. not (is_tiny s)) (map (shape_of plot) lives)

abbrev pub tiny_shapes : Plot → List Life → List Shape
tiny_shapes plot lives = map round_out (filter is_tiny (map (shape_of plot) lives))

-- the rectangles that are not tiny in the order of the lives, and then the tiny ones, sorted by their numbers and merged
abbrev pub AreMerged : Plot → List Life → List Shape → Type 0
AreMerged plot lives shapes =
    (keys : List ℕ) × IsPermutation (map key_of (tiny_shapes plot lives)) keys × IsNonDecreasing keys
    × (shapes ≡ large_shapes plot lives ++ merge (map shape_of_key keys))

-- the rectangles cover what those of the lives do, the tiny ones rounded, and no point more
abbrev pub CoverLives : Plot → List Life → List Shape → Type 0
CoverLives plot lives shapes = (p : Point) → list_any (covers p) shapes ≡ list_any (covers p) (map (λ l. rounded_if_tiny (shape_of plot l)) lives)

-- merging adds and removes no point: each life is covered, and whatever is covered is a life
abbrev pub MergedRectanglesCoverLives : Type 0
MergedRectanglesCoverLives = (plot : Plot) (lives : List Life) (shapes : List Shape) → AreMerged plot lives shapes → CoverLives plot lives shapes
