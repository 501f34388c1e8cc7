use Rattle.offset_script.proofs.{Common.arith, Numbers.goes_on_digits, Numbers.goes_on_value, Numbers.goes_on_small}
use Rattle.offset_script.proofs.common_lines.number_at_head.Goals as goal

pub loop-i-preserved : goal.loop-i-preserved
loop-i-preserved c = search (arith, goes_on_digits, goes_on_value, goes_on_small)
