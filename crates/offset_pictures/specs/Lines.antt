-- The points of the lines of a picture. Lengths are in hundredths of a pixel.
use Rattle.std.specs.Prelude.{◌≡◌, ℕ, ◌+◌, ◌<◌, ◌≤◌, ◌⊎◌, List, [], ◌∷◌, ◌++◌, codes, flat_map, length, max, min, slice_index}
use Rattle.offset_pictures.specs.declared.axes.Axis.{Axis}
use Rattle.offset_pictures.specs.declared.plots.Plot.{Plot}
use Rattle.offset_pictures.specs.Numerals.{pixels_text}
use Rattle.offset_pictures.specs.Plots.{IsPlot}
use Rattle.offset_pictures.specs.Axes.{right_of, up_of, x_of, y_of}
use Rattle.offset_pictures.specs.StepLines.{steps_text}

-- a step of a line: across to an x, or upright to a y
pub data Step : Type 0 where
  Across : (x : ℕ) → Step
  Upright : (y : ℕ) → Step

-- a step as it is written, and a line from a point by these steps
abbrev pub step_text : Step → List ℕ
step_text (Across x) = codes "H" ++ pixels_text x
step_text (Upright y) = codes "V" ++ pixels_text y

abbrev pub path_text : ℕ → ℕ → List Step → List ℕ
path_text x y steps = codes "M" ++ pixels_text x ++ codes " " ++ pixels_text y ++ flat_map step_text steps

-- a number lies between two others, or is one of them
abbrev pub IsBetween : ℕ → ℕ → ℕ → Type 0
IsBetween a b n = (min a b ≤ n) × (n ≤ max a b)

-- a point (x, y) is on the line from the point (a, b) by these steps
abbrev pub IsOn : ℕ → ℕ → ℕ → ℕ → List Step → Type 0
IsOn x y a b [] = (x ≡ a) × (y ≡ b)
IsOn x y a b (Across end ∷ steps) = ((y ≡ b) × IsBetween a end x) ⊎ IsOn x y end b steps
IsOn x y a b (Upright end ∷ steps) = ((x ≡ a) × IsBetween b end y) ⊎ IsOn x y a end steps

-- a length is another one, or less than a tenth of a pixel below it
abbrev pub IsWithinTenth : ℕ → ℕ → Type 0
IsWithinTenth drawn exact = (drawn ≤ exact) × (exact < drawn + 10)

-- one of `count` states is drawn at x: it begins there or to the left, and the next one, if there is one, there or to the right
abbrev pub IsOnAt : Axis → ℕ → ℕ → ℕ → Type 0
IsOnAt calls count x state = (state < count) × (x_of calls state ≤ x) × ((x ≤ x_of calls (state + 1)) ⊎ (state + 1 ≡ count))

-- the y of the value of a state that is on at an x, or at an end of the plot the y at which the line begins and ends
abbrev pub IsYAt : Plot → ℕ → List ℕ → ℕ → ℕ → Type 0
IsYAt p base values x y =
    ((state : ℕ) × IsOnAt p.calls (length values) x state × (y ≡ y_of p.units (slice_index values state)))
    ⊎ (((x ≡ p.calls.start) ⊎ (x ≡ p.calls.start + p.calls.span)) × (y ≡ base))

-- A line shows these values: it has a point where each state lies, at the y of its value, each within a tenth of a pixel;
-- and each of its points is at such a y of its x, or upright between two of them.
pub record Shows (p : Plot) (base : ℕ) (values : List ℕ) (steps : List Step) : Type 0 where
  pub across : (state : ℕ) → IsWithinTenth (x_of p.calls state) (right_of p.calls state)
  pub upright : (value : ℕ) → IsWithinTenth (y_of p.units value) (up_of p.units value)
  pub each_state : (k : ℕ) → k < length values → IsOn (x_of p.calls k) (y_of p.units (slice_index values k)) p.calls.start base steps
  pub each_point : (x y : ℕ) → IsOn x y p.calls.start base steps → (a b : ℕ) × IsYAt p base values x a × IsYAt p base values x b × IsBetween a b y

-- in a plot, the line of steps of these values shows them
abbrev pub EachLineShowsItsValues : Type 0
EachLineShowsItsValues =
    (count top height last base : ℕ) (p : Plot) (values : List ℕ) → IsPlot count top height last p → 0 < length values
    → (steps : List Step) × (steps_text p base values ≡ path_text p.calls.start base steps) × Shows p base values steps
