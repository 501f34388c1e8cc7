-- The whole text of a picture.
use Rattle.std.specs.Prelude.{◌≡◌, ℕ, List, ◌++◌, IsUtf8, Option, codes}
use Rattle.offset_script.specs.Grammar.{Plan}
use Rattle.offset_pictures.specs.declared.course.Course.{Course}
use Rattle.offset_pictures.specs.declared.figures.Figures.{Figures}
use Rattle.offset_pictures.specs.declared.plots.Plot.{Plot}
use Rattle.offset_pictures.specs.Course.{IsCourse}
use Rattle.offset_pictures.specs.Figures.{AreFigures}
use Rattle.offset_pictures.specs.Legend.{legend_text, notes_text}
use Rattle.offset_pictures.specs.Marks.{refusals_text}
use Rattle.offset_pictures.specs.Plots.{IsPlot, ranges_end, ranges_height, ranges_top, reports_end, reports_height, reports_top}
use Rattle.offset_pictures.specs.Rectangles.{AreRectangles}
use Rattle.offset_pictures.specs.StepLines.{beyond_text, reports_text}
use Rattle.offset_pictures.specs.Ticks.{axes_text}
use Rattle.offset_pictures.specs.Titles.{escaped, heading_text}
use Rattle.offset_pictures.specs.Xml.{IsWellFormed}

-- what a picture begins with, up to its title
abbrev pub opening : List ℕ
opening = codes "<svg xmlns='http://www.w3.org/2000/svg' width='1200' height='840' viewBox='0 0 1200 840' role='graphics-document document'>\n<title>"

-- the colours, for light and for dark backgrounds, and the background itself
abbrev pub style : List ℕ
style =
    codes "<style>\n"
    ++ codes "text{font:14px sans-serif;fill:#1f2328}\n"
    ++ codes ".big{font-size:18px;font-weight:bold}.figures{font-size:16px}.end{text-anchor:end}.middle{text-anchor:middle}\n"
    ++ codes ".back{fill:#fff}.out{fill:#d8dee4}.grid{stroke:#d8dee4}.tick{stroke:#57606a}.refusal{stroke:#b00020;stroke-width:2}\n"
    ++ codes ".why{fill:none;pointer-events:all}.edge{stroke:#fff;stroke-width:.7}\n"
    ++ codes ".free{fill:#e3dfd2;stroke:#6e6a5c}.joined{fill:#f4c27a;stroke:#b35900}.most{fill:#cfe3f7;stroke:#1f5fae}\n"
    ++ codes ".age1{fill:#a88810}.age2{fill:#b86850}.age3{fill:#b83058}.age4{fill:#903870}\n"
    ++ codes ".age5{fill:#5038a8}.age6{fill:#382868}.age7{fill:#002838}.age8{fill:#001010}\n"
    ++ codes "@media (prefers-color-scheme:dark){\n"
    ++ codes "text{fill:#e6edf3}\n"
    ++ codes ".back{fill:#0d1117}.out{fill:#30363d}.grid{stroke:#30363d}.tick{stroke:#8b949e}.refusal{stroke:#ff7b80}\n"
    ++ codes ".edge{stroke:#0d1117}\n"
    ++ codes ".free{fill:#403d33;stroke:#aaa594}.joined{fill:#8a5a1c;stroke:#f0a04b}.most{fill:#16324f;stroke:#6cb0f5}\n"
    ++ codes ".age1{fill:#f8f0c0}.age2{fill:#f8d878}.age3{fill:#f8b098}.age4{fill:#f08098}\n"
    ++ codes ".age5{fill:#c080b0}.age6{fill:#9870e8}.age7{fill:#6870a8}.age8{fill:#007078}\n"
    ++ codes "}\n"
    ++ codes "</style>\n"
    ++ codes "<rect class='back' width='1200' height='840'/>\n"

-- What a picture of a course has below its heading: the legend; in the plot of the ranges the units that are not in the
-- space yet, the axes, the rectangles of the lives, and the marks of refused calls with their reasons; in the plot of the
-- reports their lines, and the axes; and the notes.
pub record IsBody (c : Course) (text : List ℕ) : Type 0 where
  pub figures : Figures
  pub are : AreFigures figures c
  pub ranges : Plot
  pub is_ranges : IsPlot figures.calls ranges_top ranges_height (ranges_end figures) ranges
  pub reports : Plot
  pub is_reports : IsPlot figures.calls reports_top reports_height (reports_end figures) reports
  pub rectangles : List ℕ
  pub merged : Option ℕ
  pub are_rectangles : AreRectangles ranges c.lives.items figures.calls merged rectangles
  pub is : text
      ≡ legend_text figures c.max_allocs ranges.units.most ++ beyond_text ranges c ++ axes_text ranges 6 12 ++ rectangles ++ refusals_text ranges c.reports.items c.refused.items
      ++ reports_text reports c ++ axes_text reports 4 12 ++ notes_text merged

-- the picture of a course, with this title: its accessible name, and the heading that it shows
pub record IsPictureOf (title : List ℕ) (c : Course) (text : List ℕ) : Type 0 where
  pub body : List ℕ
  pub is_body : IsBody c body
  pub is : text ≡ opening ++ escaped title ++ codes "</title>\n" ++ style ++ heading_text title ++ body ++ codes "</svg>\n"

-- the picture of a script, with this title
pub record IsPicture (title : List ℕ) (plan : Plan) (text : List ℕ) : Type 0 where
  pub course : Course
  pub is_course : IsCourse plan course
  pub is_picture : IsPictureOf title course text

-- a text that begins with the tag of an SVG and the title, has the title once more as its heading, and ends with `</svg>`
-- and a line end
abbrev pub HasTitle : List ℕ → List ℕ → Type 0
HasTitle title text = (inner body : List ℕ)
    × (text ≡ opening ++ escaped title ++ codes "</title>\n" ++ inner ++ heading_text title ++ body ++ codes "</svg>\n")

-- Laws on the pictures of all courses. That of a script is the picture of a course (`IsPicture`), so they hold of it too.

-- each picture is such a text
abbrev pub PicturesHaveTitles : Type 0
PicturesHaveTitles = (title : List ℕ) (c : Course) (text : List ℕ) → IsPictureOf title c text → HasTitle title text

-- the figures of a course are fixed
abbrev pub FiguresAreFixed : Type 0
FiguresAreFixed = (c : Course) (f g : Figures) → AreFigures f c → AreFigures g c → f ≡ g

-- two pictures of one course, with one title, are the same text
abbrev pub PicturesAreFixed : Type 0
PicturesAreFixed = (title : List ℕ) (c : Course) (a b : List ℕ) → IsPictureOf title c a → IsPictureOf title c b → a ≡ b

-- each picture whose title is UTF-8 is well-formed XML
abbrev pub PicturesAreWellFormed : Type 0
PicturesAreWellFormed = (title : List ℕ) (c : Course) (text : List ℕ) → IsUtf8 title → IsPictureOf title c text → IsWellFormed text

-- two courses of one script have the same pictures: so two pictures of one script, with one title, are the same text
abbrev pub ScriptsFixTheirPictures : Type 0
ScriptsFixTheirPictures = (title : List ℕ) (plan : Plan) (a b : List ℕ) → IsPicture title plan a → IsPicture title plan b → a ≡ b
