-- The legend above the plots of a picture, and the notes below them. Lengths are in hundredths of a pixel.
use Rattle.std.specs.Prelude.{ℕ, ◌+◌, ◌-◌, ◌*◌, List, [], ◌++◌, Option, Some, None, codes, nat_eq, nat_lt, if◌then◌else◌}
use Rattle.std.specs.Fmt.{decimal}
use Rattle.offset_pictures.specs.declared.figures.Figures.{Figures}
use Rattle.offset_pictures.specs.Figures.{counted}
use Rattle.offset_pictures.specs.Numerals.{grouped_text, pixels_text, share_of, share_text}
use Rattle.offset_pictures.specs.Plots.{plot_left, plot_width, reports_top}

-- the ending of a word after a number
abbrev pub plural : ℕ → List ℕ
plural count = if nat_eq count 1 then [] else codes "s"

-- the calls, the space at first and at its largest, and the node limit
abbrev pub size_text : Figures → ℕ → List ℕ
size_text f nodes =
    codes "<text class='figures' x='24' y='49'>" ++ grouped_text f.calls ++ codes " call" ++ plural f.calls ++ codes " on a space of " ++ grouped_text f.first_size ++ codes " units"
    ++ (if nat_lt f.first_size f.largest_size then codes ", extended to " ++ grouped_text f.largest_size else []) ++ codes ", with " ++ grouped_text nodes ++ codes " nodes</text>\n"

-- the grants and the refusals, and the most grants and the most units that are live at once
abbrev pub use_text : Figures → List ℕ
use_text f =
    codes "<text class='figures' x='24' y='69'>" ++ grouped_text f.grants ++ codes " grant" ++ plural f.grants ++ codes ", " ++ grouped_text f.refusals ++ codes " refusal" ++ plural f.refusals
    ++ codes "; at most " ++ grouped_text f.most_live ++ codes " live at once. " ++ codes "Most in use: " ++ grouped_text f.most_used ++ codes " of " ++ grouped_text f.size_then ++ codes " units, "
    ++ share_text (share_of f.most_used f.size_then) ++ codes " percent.</text>\n"

-- the largest free region when it was the smallest
abbrev pub worst_text : Figures → List ℕ
worst_text f =
    codes "<text class='figures' x='24' y='89'>Largest free region at the worst moment: " ++ grouped_text f.worst_region ++ codes " units, " ++ codes "of " ++ grouped_text f.worst_free
    ++ codes " free, after "
    ++ grouped_text f.worst ++ codes " call" ++ plural f.worst ++ codes ".</text>\n"

-- the colour of an age, counted from 0, and what the legend says of it
abbrev pub age_key : ℕ → List ℕ → List ℕ
age_key age name =
    codes "<path class='age" ++ decimal (age + 1) ++ codes "' d='M" ++ pixels_text (plot_left + age * 11500) ++ codes " 101h16v14h-16z'/>"
    ++ codes "<text x='" ++ pixels_text (plot_left + age * 11500 + 2200) ++ codes "' y='113'>" ++ name ++ codes "</text>\n"

-- the colours of the ages, rising, and the mark of a refusal
abbrev pub ages_key : List ℕ
ages_key =
    codes "<text class='end' x='112' y='113'>live for</text>\n" ++ age_key 0 (codes "to 10 calls") ++ age_key 1 (codes "to 30") ++ age_key 2 (codes "to 100") ++ age_key 3 (codes "to 300")
    ++ age_key 4 (codes "to 1,000") ++ age_key 5 (codes "to 3,000") ++ age_key 6 (codes "to 10,000") ++ age_key 7 (codes "longer") ++ codes "<path class='refusal' d='M1048 102v12'/>"
    ++ codes "<text x='1062' y='113'>refusal</text>\n"

-- where the space ends; the plot of the ranges ends at the unit `end`
abbrev pub end_text : Figures → ℕ → List ℕ
end_text f end =
    codes "<text class='end' x='112' y='139'>unit</text>\n"
    ++ (if nat_lt f.first_size end then codes "<path class='out' d='M120 127h16v14h-16z'/>" ++ codes "<text x='142' y='139'>not in the space yet</text>\n" else [])
    ++ codes "<text class='end' x='" ++ pixels_text (plot_left + plot_width) ++ codes "' y='139'>the space ends at " ++ grouped_text f.largest_size ++ codes "</text>\n"

-- why a report may be 0, if one is: at the node limit
abbrev pub full_text : Figures → List ℕ
full_text f =
    if nat_lt 0 f.full_states then codes "<text class='end' x='" ++ pixels_text (plot_left + plot_width) ++ codes "' y='" ++ pixels_text (reports_top - 1000)
    ++ codes "'>At the node limit, " ++ grouped_text f.full_states ++ codes " time" ++ plural f.full_states ++ codes ", " ++ codes "0 units are reported as free.</text>\n" else []

-- what the colours of the reports mean
abbrev pub colours_text : Figures → List ℕ
colours_text f =
    codes "<path class='free' d='M120 " ++ pixels_text (reports_top - 4500) ++ codes "h16v14h-16z'/>"
    ++ codes "<text x='142' y='" ++ pixels_text (reports_top - 3200) ++ codes "'>free units</text>\n"
    ++ codes "<path class='joined' d='M235 " ++ pixels_text (reports_top - 4500) ++ codes "h16v14h-16z'/>"
    ++ codes "<text x='257' y='" ++ pixels_text (reports_top - 3200) ++ codes "'>largest free region, if they were one block "
    ++ codes "(the gap to the free units: rounding to a size class)</text>\n"
    ++ codes "<path class='most' d='M120 " ++ pixels_text (reports_top - 2300) ++ codes "h16v14h-16z'/>"
    ++ codes "<text x='142' y='" ++ pixels_text (reports_top - 1000) ++ codes "'>largest free region (the gap to that of one block: fragmentation)</text>\n"
    ++ full_text f

-- the text below the heading, with the numbers of a course
abbrev pub legend_text : Figures → ℕ → ℕ → List ℕ
legend_text f nodes end = size_text f nodes ++ use_text f ++ worst_text f ++ ages_key ++ end_text f end ++ colours_text f

-- what is said where rectangles are merged: they have no titles, and this is how many they are
abbrev pub merged_text : Option ℕ → List ℕ
merged_text None = []
merged_text (Some count) = codes " No titles, and those below 0.1 pixels are merged into their neighbours: " ++ grouped_text (counted count) ++ codes " rectangles."

-- the line below the plots
abbrev pub notes_text : Option ℕ → List ℕ
notes_text merged = codes "<text x='24' y='828'>Ranges thinner than 0.3 pixels are drawn 0.3 pixels thick." ++ merged_text merged ++ codes "</text>\n"
