-- The two plots: where they are, in hundredths of a pixel, and the units that they show.
use Rattle.std.specs.Prelude.{ℕ, ◌+◌, ◌/◌, max, min, nat_eq, if◌then◌else◌}
use Rattle.offset_pictures.specs.declared.figures.Figures.{Figures}
use Rattle.offset_pictures.specs.declared.plots.Plot.{Plot}
use Rattle.offset_pictures.specs.Axes.{IsAxis}
use Rattle.offset_pictures.specs.Figures.{counted}

-- where both plots begin, and how wide they are
abbrev pub plot_left : ℕ
plot_left = 12000

abbrev pub plot_width : ℕ
plot_width = 105000

-- the upper end of the plot of the ranges, and how high it is
abbrev pub ranges_top : ℕ
ranges_top = 15000

abbrev pub ranges_height : ℕ
ranges_height = 40000

-- the upper end of the plot of the reports, and how high it is
abbrev pub reports_top : ℕ
reports_top = 63000

abbrev pub reports_height : ℕ
reports_height = 15000

-- the lower end of a plot
abbrev pub bottom_of : Plot → ℕ
bottom_of p = p.units.start + p.units.span

-- a plot of so many calls: they run to the right, and its units upwards, to the unit `last` at its upper end, `top`
pub record IsPlot (count top height last : ℕ) (p : Plot) : Type 0 where
  pub calls : IsAxis plot_left plot_width (counted (count + 1)) p.calls
  pub units : IsAxis top height last p.units

-- the units at the end of the plot of the ranges: a twentieth above the highest unit that was used, or where the space ends
abbrev pub ranges_end : Figures → ℕ
ranges_end f = max (if nat_eq f.highest 0 then f.largest_size else min (counted (f.highest + (f.highest / 20 + 1))) f.largest_size) 1

-- the units at the end of the plot of the reports: those of the space at its largest
abbrev pub reports_end : Figures → ℕ
reports_end f = max f.largest_size 1
