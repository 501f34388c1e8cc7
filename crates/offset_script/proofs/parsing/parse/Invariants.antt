use Rattle.offset_script.proofs.Common.{◌≡◌, length, All, IsTrue, has_valid_alignment, significant_from, meaning_of}
use Rattle.offset_script.proofs.Meaning.{rest_of_plan}
use Rattle.offset_script.proofs.parsing.parse.Given as goal

abbrev pub invariant-loop-number : goal.invariant-loop-number
invariant-loop-number l = record {
  read : rest_of_plan l.header l.commands.items (significant_from l.lines.number l.lines.rest.now) ≡ meaning_of l.fn.text;
  alignments : All (λ c. IsTrue (has_valid_alignment c)) l.commands.items;
}

abbrev pub decreases-loop-number : goal.decreases-loop-number
decreases-loop-number l = length l.lines.rest.now
