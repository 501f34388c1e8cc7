-- Scripts that are played without full reports, and what is seen meanwhile.
use Rattle.std.specs.Prelude.{◌≡◌, List, map}
use Rattle.offset_script.specs.declared.scripts.Command.{Command}
use Rattle.offset_script.specs.declared.scripts.Command.TheVariants as command
use Rattle.offset_script.specs.Machine.{State, answer_view, answers}
use Rattle.offset_pictures.specs.declared.watching.Watched.{Watched}
use Rattle.offset_pictures.specs.Refusals.{refusals_with_reasons_from}
use Rattle.offset_pictures.specs.Reports.{report_view, reports_from, states_from, units_in}

-- a command, with a report in place of a full report
abbrev pub replace_full : Command → Command
replace_full command.Full = command.Report
replace_full other = other

-- commands, with a report in place of each full report
abbrev pub replace_all_full : List Command → List Command
replace_all_full cs = map replace_full cs

-- what the plain machine answers to commands from a state on, what it reports, how large it is, and which commands it refuses
pub record HasSeen (w : Watched) (s : State) (cs : List Command) : Type 0 where
  pub answers : map answer_view w.answers.items ≡ answers cs s
  pub reports : map report_view w.reports.items ≡ reports_from cs s
  pub sizes : w.sizes.items ≡ map units_in (states_from cs s)
  pub refused : w.refused.items ≡ refusals_with_reasons_from 0 cs s
