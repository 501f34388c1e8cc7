-- The rectangle of a life, and its age group.
use Rattle.std.specs.Prelude.{ℕ, ◌+◌, [], ◌∷◌, count_by, nat_lt}
use Rattle.offset_pictures.specs.declared.living.Life.{Life}
use Rattle.offset_pictures.specs.declared.plots.Plot.{Plot}
use Rattle.offset_pictures.specs.declared.shapes.Shape.{Shape}
use Rattle.offset_pictures.specs.Axes.{right_of, up_of}

-- the age group of a life of this many calls: how many of these numbers it exceeds
abbrev pub age_of : ℕ → ℕ
age_of calls = count_by (λ most. nat_lt most calls) (10 ∷ 30 ∷ 100 ∷ 300 ∷ 1000 ∷ 3000 ∷ 10000 ∷ [])

-- the rectangle of a life: from the call that granted it to the one that ended it, counted from 1, as high as its range,
-- and in the colour of its age
abbrev pub shape_of : Plot → Life → Shape
shape_of p l = record {
  top = up_of p.units (l.offset + l.size);
  bottom = up_of p.units l.offset;
  age = age_of l.lived;
  left = right_of p.calls (l.first + 1);
  right = right_of p.calls (l.last + 1);
}
