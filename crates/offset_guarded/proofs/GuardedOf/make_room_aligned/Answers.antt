use Rattle.std.proofs.Common.{arith}
use Rattle.offset_guarded.proofs.ByTheStep.{none_made, made}
use Rattle.offset_guarded.proofs.GuardedOf.make_room_aligned.Goals as goal

pub returns-then-step-eq0 : goal.returns-then-step-eq0
returns-then-step-eq0 g c = none_made _ _ c.args.self.now (omega (arith, c.step_number-step.ensures, c.if-step-eq0.true)) c.args.size c.args.align

pub returns : goal.returns
returns g c = made _ _ c.args.self.now c.make_room_by.new.self _ c.step_number-step.result c.step_number-step.ensures (omega (arith, c.if-step-eq0.false)) c.args.size c.args.align c.make_room_by.result c.make_room_by.ensures
