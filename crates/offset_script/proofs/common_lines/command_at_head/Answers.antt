use Rattle.offset_script.proofs.CommonLines.{numbered_line}
use Rattle.offset_script.proofs.common_lines.command_at_head.Goals as goal

pub returns-in-Some : goal.returns-in-Some
returns-in-Some c = rw c.with.ensures (numbered_line c.in-Some.word c.in_ok-n.n c.args.text.now c.in-Some.rest.now c.in_ok-n.rest.now c.in-Some.ensures.word c.in_ok-n.ensures)
