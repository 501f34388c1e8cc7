-- The values of the lower plot of a picture.
use Rattle.std.specs.Prelude.{ℕ, ◌≤◌, List, All}
use Rattle.offset_allocator.specs.Classes.{value, down}
use Rattle.offset_allocator.specs.declared.reports.StorageReport.{StorageReport}
use Rattle.offset_script.specs.declared.scripts.Command.{Command}
use Rattle.offset_script.specs.Machine.{Answer, Report}
use Rattle.offset_pictures.specs.Reports.{reports_of}

-- the largest free region that is reported where these units are one free block: the value of its class
abbrev pub joined : ℕ → ℕ
joined units = value (down units)

-- of a report: the free units, what the largest free region would be, were they one block, and what it is
abbrev pub free_of : StorageReport → ℕ
free_of r = r.total_free_space

abbrev pub joined_of : StorageReport → ℕ
joined_of r = joined r.total_free_space

abbrev pub most_of : StorageReport → ℕ
most_of r = r.largest_free_region

-- a report has no larger free region than if its free units were one block, and that is at most these units
abbrev pub IsLevelled : Answer → Type 0
IsLevelled (Report free largest) = (largest ≤ joined free) × (joined free ≤ free)
IsLevelled other = Unit {0}

-- in any script, the lines of the lower plot never cross
abbrev pub ReportsAreLevelled : Type 0
ReportsAreLevelled = (size limit : ℕ) → (cs : List Command) → All IsLevelled (reports_of size limit cs)
