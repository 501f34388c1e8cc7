-- Where the rectangles of two lives are. Lengths are in hundredths of a pixel.
use Rattle.std.specs.Prelude.{◌≡◌, ℕ, ◌+◌, ◌≤◌, ◌⊎◌, List, AllPairs, map}
use Rattle.offset_script.specs.declared.scripts.Command.{Command}
use Rattle.offset_pictures.specs.declared.living.Life.{Life}
use Rattle.offset_pictures.specs.declared.plots.Plot.{Plot}
use Rattle.offset_pictures.specs.declared.rectangles.Frame.{Frame}
use Rattle.offset_pictures.specs.declared.shapes.Shape.{Shape}
use Rattle.offset_pictures.specs.Lives.{life_view, lives_of}
use Rattle.offset_pictures.specs.Merging.{rounded_if_tiny}
use Rattle.offset_pictures.specs.Plots.{IsPlot, ranges_height, ranges_top}
use Rattle.offset_pictures.specs.Rectangles.{frame_of}
use Rattle.offset_pictures.specs.Shapes.{shape_of}

-- two rectangles do not overlap; they may touch
abbrev pub AreApart : Shape → Shape → Type 0
AreApart s t = (s.right ≤ t.left) ⊎ ((t.right ≤ s.left) ⊎ ((s.bottom ≤ t.top) ⊎ (t.bottom ≤ s.top)))

-- two rectangles do not overlap, or by a tenth of a pixel at most
abbrev pub AreNearlyApart : Shape → Shape → Type 0
AreNearlyApart s t = (s.right ≤ t.left + 10) ⊎ ((t.right ≤ s.left + 10) ⊎ ((s.bottom ≤ t.top + 10) ⊎ (t.bottom ≤ s.top + 10)))

-- a rectangle, as it is drawn, ends where another one begins, or to the left of it; or it has the least width, which is 0.3
-- pixels, and begins no further to the right
abbrev pub IsLeftOf : Frame → Frame → Type 0
IsLeftOf f g = (f.x + f.width ≤ g.x) ⊎ ((f.width ≡ 30) × (f.x ≤ g.x))

-- a rectangle, as it is drawn, ends where another one begins, or above it; or the other one has the least height, and ends
-- no further up
abbrev pub IsAbove : Frame → Frame → Type 0
IsAbove f g = (f.y + f.height ≤ g.y) ⊎ ((g.height ≡ 30) × (f.y + f.height ≤ g.y + g.height))

-- one of two rectangles, as they are drawn, is so to the left of the other, or above it
abbrev pub AreDrawnApart : Frame → Frame → Type 0
AreDrawnApart f g = IsLeftOf f g ⊎ (IsLeftOf g f ⊎ (IsAbove f g ⊎ IsAbove g f))

-- The rectangles of two lives do not overlap before those that are too thin to be seen are drawn thicker, and after that by
-- no more than 0.3 pixels, where one of them is as thin as that. Rounded, as tiny ones are before they are merged, they
-- overlap by a tenth of a pixel at most.
pub record AreRectanglesApart (p : Plot) (a b : Life) : Type 0 where
  pub exact : AreApart (shape_of p a) (shape_of p b)
  pub thicker : AreDrawnApart (frame_of (shape_of p a)) (frame_of (shape_of p b))
  pub rounded : AreNearlyApart (rounded_if_tiny (shape_of p a)) (rounded_if_tiny (shape_of p b))

-- so it is in any script, in the plot of the ranges, whatever its axes show
abbrev pub RectanglesAreApart : Type 0
RectanglesAreApart =
    (size limit : ℕ) → 2 ≤ limit → (cs : List Command) (count last : ℕ) (p : Plot) (lives : List Life) → IsPlot count ranges_top ranges_height last p → map life_view lives ≡ lives_of size limit cs
    → AllPairs (AreRectanglesApart p) lives
