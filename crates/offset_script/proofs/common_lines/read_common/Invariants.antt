use Rattle.offset_script.proofs.Common.{◌+◌, ◌^◌, ◌<◌, ◌≤◌, length, All, IsTrue, has_valid_alignment, significant_from}
use Rattle.offset_script.specs.CommonLines.{ReadsCommands}
use Rattle.offset_script.proofs.common_lines.read_common.Given as goal

abbrev pub invariant-loop-command : goal.invariant-loop-command
invariant-loop-command l = record {
  fits : l.number + length l.rest < 2 ^ 32;
  read : ReadsCommands (significant_from l.fn.lines.number l.fn.lines.rest.now) l.fn.commands.items (significant_from l.number l.rest) l.commands.items;
  alignments : All (λ c. IsTrue (has_valid_alignment c)) l.fn.commands.items → All (λ c. IsTrue (has_valid_alignment c)) l.commands.items;
  shorter : length l.rest ≤ length l.fn.lines.rest.now;
}

abbrev pub decreases-loop-command : goal.decreases-loop-command
decreases-loop-command l = length l.rest
