use Rattle.offset_script.proofs.Common.{arith, map}
use Rattle.offset_script.proofs.{Simulation.rows_all, Simulation.rows_more, Simulation.rows_same, answers.full_answer.Goals.then-region-gt0+in_ok-push, answers.full_answer.Goals.else-region-gt0}
use Rattle.offset_script.proofs.answers.full_answer.Goals as goal

pub returns : goal.returns
returns g c = rows_all c.loop-class.class c.args.space.now c.loop-class.rows.items c.loop-class.invariant (omega arith)

pub loop-class-preserved : goal.loop-class-preserved
loop-class-preserved g c = search (arith, then-region-gt0+in_ok-push, map, rows_more, else-region-gt0, rows_same)
