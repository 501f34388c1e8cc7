-- The lines of steps of a picture. Lengths are in hundredths of a pixel.
use Rattle.std.specs.Prelude.{◌≡◌, ℕ, ◌+◌, ◌&&◌, List, [], ◌∷◌, ◌++◌, EachIndex, MatchOption, codes, map, max, min, nat_eq, slice_index, if◌then◌else◌}
use Rattle.offset_pictures.specs.declared.axes.Axis.{Axis}
use Rattle.offset_pictures.specs.declared.course.Course.{Course}
use Rattle.offset_pictures.specs.declared.plots.Plot.{Plot}
use Rattle.offset_pictures.specs.declared.step_lines.Column.{Column}
use Rattle.offset_pictures.specs.declared.step_lines.Group.{Group}
use Rattle.offset_pictures.specs.declared.step_lines.Pen.{Pen}
use Rattle.offset_pictures.specs.Axes.{x_of, y_of}
use Rattle.offset_pictures.specs.Levels.{free_of, joined_of, most_of}
use Rattle.offset_pictures.specs.Numerals.{pixels_text}
use Rattle.offset_pictures.specs.Plots.{bottom_of}

-- the x of each state, from the first on
abbrev pub AreXs : Axis → List ℕ → Type 0
AreXs calls xs = EachIndex xs (λ s. slice_index xs s ≡ x_of calls s)

-- ---- groups of states

-- the group of one state
abbrev pub one_state : ℕ → ℕ → Group
one_state x value = record { left = x; least = value; most = value; last = value }

-- two groups at one x as one
abbrev pub join_groups : Group → Group → Group
join_groups a b = record { left = a.left; least = min a.least b.least; most = max a.most b.most; last = b.last }

-- a group before others: it joins the next one, where both are at one x
abbrev pub group_before : Group → List Group → List Group
group_before g [] = g ∷ []
group_before g (h ∷ hs) = if nat_eq g.left h.left then join_groups g h ∷ hs else g ∷ h ∷ hs

-- the groups of the states from this one on, which have these values: neighbours that lie at one x are of one group
abbrev pub groups_from : Axis → ℕ → List ℕ → List Group
groups_from calls state [] = []
groups_from calls state (v ∷ vs) = group_before (one_state (x_of calls state) v) (groups_from calls (state + 1) vs)

-- ---- the steps

-- the y of the values of a group: a larger value lies higher, where y is smaller
abbrev pub column_of : Axis → Group → Column
column_of units g = record { left = g.left; top = y_of units g.most; bottom = y_of units g.least; last = y_of units g.last }

-- a pen with a value is at its y
abbrev pub IsAt : Axis → Pen → Type 0
IsAt units p = MatchOption p.value (Unit {0}) (λ v. p.y ≡ y_of units v)

-- the steps of a line that is at the y `pen`: to the left edge of a column, and over all of its y to the last
abbrev pub column_text : Column → ℕ → List ℕ
column_text c pen =
    if nat_eq c.top pen && nat_eq c.bottom pen then []
    else codes "H" ++ pixels_text c.left ++ (if nat_eq c.top c.last then [] else codes "V" ++ pixels_text c.top) ++ (if nat_eq c.bottom c.last then [] else codes "V" ++ pixels_text c.bottom)
    ++ codes "V" ++ pixels_text c.last

-- the steps over the y of the values of these groups, from the y `pen`
abbrev pub groups_text : Axis → ℕ → List Group → List ℕ
groups_text units pen [] = []
groups_text units pen (g ∷ gs) = column_text (column_of units g) pen ++ groups_text units (y_of units g.last) gs

-- the line of steps of all states, which have these values: from the y `base` at the left end of the plot, and at its
-- right end back to it
abbrev pub steps_text : Plot → ℕ → List ℕ → List ℕ
steps_text p base values =
    codes "M" ++ pixels_text p.calls.start ++ codes " " ++ pixels_text base ++ groups_text p.units base (groups_from p.calls 0 values)
    ++ codes "H" ++ pixels_text (p.calls.start + p.calls.span) ++ codes "V" ++ pixels_text base

-- a line of steps as an element of this class
abbrev pub line_text : List ℕ → Plot → ℕ → List ℕ → List ℕ
line_text class p base values = codes "<path class='" ++ class ++ codes "' d='" ++ steps_text p base values ++ codes "'/>\n"

-- the units that are not in the space yet: from the upper end of the plot down to where the space ends
abbrev pub beyond_text : Plot → Course → List ℕ
beyond_text p c = line_text (codes "out") p p.units.start c.sizes.items

-- the three lines of reports, from the lower end of the plot up
abbrev pub reports_text : Plot → Course → List ℕ
reports_text p c =
    line_text (codes "free") p (bottom_of p) (map free_of c.reports.items)
    ++ line_text (codes "joined") p (bottom_of p) (map joined_of c.reports.items)
    ++ line_text (codes "most") p (bottom_of p) (map most_of c.reports.items)
