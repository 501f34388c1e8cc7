use Rattle.offset_script.proofs.Common.{◌<◌, length, arith, IsTrue, All-push, has_valid_alignment}
use Rattle.offset_script.proofs.CommonLines.{reads_one_more, is_shorter, is_valid}
use Rattle.offset_script.proofs.common_lines.read_common.Goals as goal

pub loop-command-preserved : goal.loop-command-preserved
loop-command-preserved c =
    let head = c.in-Some.ensures in
    let less : length c.in-Some.after.now < length c.loop-command.rest.now = is_shorter c.loop-command.rest.now c.in-Some.after.now c.in-Some.command head in
    record {
      fits = omega arith;
      read = rw c.in_ok-push.ensures.items
          (reads_one_more c.loop-command.number c.loop-command.rest.now c.in-Some.after.now c.in-Some.command _ c.args.commands.now.items c.loop-command.commands.items c.loop-command.invariant.read
          head);
      alignments = λ valid. rw c.in_ok-push.ensures.items
          (All-push (λ x. IsTrue (has_valid_alignment x)) c.loop-command.commands.items c.in-Some.command (c.loop-command.invariant.alignments valid) (is_valid c.in-Some.command head.line head.spells));
      shorter = omega arith;
    }
