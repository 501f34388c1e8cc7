use Rattle.offset_script.proofs.{Common.sym, Common.◌∙◌, Common.arith, Common.IsTrue, Common.All-push, Common.has_valid_alignment, Meaning.has_header, Meaning.has_bad_command, Meaning.goes_on}
use Rattle.offset_script.proofs.{Meaning.admitted, CommonLines.goes_on_past}
use Rattle.offset_script.proofs.parsing.parse.Goals as goal

pub loop-number-init : goal.loop-number-init
loop-number-init c =
    let said = c.in-Some.ensures.line in
    let from_start = rw (c.of-lines.ensures.number, c.of-lines.ensures.rest) at said in
    let reads = rw c.new-commands.ensures.items at c.in_ok-read_common.ensures.read in
    record {
      read = goes_on_past c.in-Some-header.header _ _ _ _ _
          (has_header c.args.text.now (record { number = c.in-Some.number; text = c.in-Some.line.now }) _ c.in-Some-header.header (omega arith) from_start (sym c.header.ensures ∙ c.in-Some-header.is)
          (sym c.is_admitted.ensures ∙ c.if-not-is_admitted.false))
          reads;
      alignments = c.in_ok-read_common.ensures.alignments (rw c.new-commands.ensures.items (λ k d lt. absurd (omega arith)));
    }

pub returns-in_default-command : goal.returns-in_default-command
returns-in_default-command c = has_bad_command c.in-Some-header.header c.loop-number.commands.items _ (record { number = c.in-Some-next_line.number; text = c.in-Some-next_line.line.now }) _ _
    c.loop-number.invariant.read c.in-Some-next_line.ensures.line (sym c.command.ensures.command ∙ c.in_default-command.is)

pub loop-number-preserved : goal.loop-number-preserved
loop-number-preserved c =
    let reads = rw c.in_ok-push.ensures.items at c.in_ok-read_common-2.ensures.read in
    record {
      read = goes_on_past c.in-Some-header.header _ _ _ _ _
          (goes_on c.in-Some-header.header c.loop-number.commands.items _ (record { number = c.in-Some-next_line.number; text = c.in-Some-next_line.line.now }) _ c.in-Some-command.command _
          c.loop-number.invariant.read c.in-Some-next_line.ensures.line (sym c.command.ensures.command ∙ c.in-Some-command.is))
          reads;
      alignments = c.in_ok-read_common-2.ensures.alignments (rw c.in_ok-push.ensures.items
          (All-push (λ x. IsTrue (has_valid_alignment x)) c.loop-number.commands.items c.in-Some-command.command c.loop-number.invariant.alignments c.in-Some-command.ensures.alignment));
    }

pub invariant_of-result-clause-low : goal.invariant_of-result-clause-low
invariant_of-result-clause-low c = (admitted c.in-Some-header.header (sym c.is_admitted.ensures ∙ c.if-not-is_admitted.false)).0

pub invariant_of-result-clause-high : goal.invariant_of-result-clause-high
invariant_of-result-clause-high c = (admitted c.in-Some-header.header (sym c.is_admitted.ensures ∙ c.if-not-is_admitted.false)).1
