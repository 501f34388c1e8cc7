-- What a space reports between the commands, and how large it is.
use Rattle.std.specs.Prelude.{ℕ, List, [], ◌∷◌, map, min}
use Rattle.offset_allocator.specs.declared.reports.StorageReport.{StorageReport}
use Rattle.offset_script.specs.declared.scripts.Command.{Command}
use Rattle.offset_script.specs.Machine.{State, Answer, Report, start, step, report, total}

-- a report, as the plain machine has it
abbrev pub report_view : StorageReport → Answer
report_view r = Report r.total_free_space r.largest_free_region

-- a state, and the one after each command
abbrev pub states_from : List Command → State → List State
states_from [] s = s ∷ []
states_from (c ∷ cs) s = s ∷ states_from cs (step c s).state

-- the report of a state, and the one after each command
abbrev pub reports_from : List Command → State → List Answer
reports_from cs s = map report (states_from cs s)

-- the units of a state, as a number of 32 bits
abbrev pub units_in : State → ℕ
units_in s = min (total s.blocks) 4294967295

-- the reports before the first command and after each, from one free block of size units
abbrev pub reports_of : ℕ → ℕ → List Command → List Answer
reports_of size limit cs = reports_from cs (start size limit)
