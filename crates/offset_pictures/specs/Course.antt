-- The course of a script: all that a picture shows of its calls.
use Rattle.std.specs.Prelude.{◌≡◌, ℕ, ◌+◌, ◌≤◌, List, length, map, min, slice_index, take}
use Rattle.offset_script.specs.declared.scripts.Command.{Command}
use Rattle.offset_script.specs.Grammar.{Plan}
use Rattle.offset_script.specs.Machine.{start}
use Rattle.offset_script.specs.Totals.{added_by}
use Rattle.offset_pictures.specs.declared.course.Course.{Course}
use Rattle.offset_pictures.specs.Lives.{life_view, lives_of}
use Rattle.offset_pictures.specs.Refusals.{refusals_with_reasons}
use Rattle.offset_pictures.specs.Reports.{report_view, reports_of}

-- the units of a space after i commands: those at first, and those that the commands added
abbrev pub units_after : ℕ → ℕ → ℕ → List Command → ℕ
units_after i size limit cs = min (size + added_by (take i cs) (start size limit)) 4294967295

-- the units of the space in each state: number i is for the space after the first i commands
abbrev pub AreSizes : List ℕ → ℕ → ℕ → List Command → Type 0
AreSizes sizes size limit cs = (length sizes ≡ length cs + 1) × ((i : ℕ) → i ≤ length cs → slice_index sizes i ≡ units_after i size limit cs)

-- the course of a script: its lives, reports, sizes and refusals are those of the plain machine, and each grant has one life
pub record IsCourse (plan : Plan) (c : Course) : Type 0 where
  pub limit : c.max_allocs ≡ plan.header.max_allocs
  pub grants : c.grants ≡ length c.lives.items
  pub lives : map life_view c.lives.items ≡ lives_of plan.header.size plan.header.max_allocs plan.commands
  pub reports : map report_view c.reports.items ≡ reports_of plan.header.size plan.header.max_allocs plan.commands
  pub sizes : AreSizes c.sizes.items plan.header.size plan.header.max_allocs plan.commands
  pub refused : c.refused.items ≡ refusals_with_reasons plan.header.size plan.header.max_allocs plan.commands
