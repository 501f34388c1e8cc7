use Rattle.std.proofs.Common.{arith}
use Rattle.offset_guarded.proofs.ByTheStep.{none_compacted, compacted}
use Rattle.offset_guarded.proofs.GuardedOf.compact.Goals as goal

pub returns-then-step-eq0 : goal.returns-then-step-eq0
returns-then-step-eq0 g c = none_compacted _ _ c.args.self.now (omega (arith, c.step_number-step.ensures, c.if-step-eq0.true))

pub returns : goal.returns
returns g c = compacted _ _ c.args.self.now c.compact_by.new.self _ c.step_number-step.result c.step_number-step.ensures (omega (arith, c.if-step-eq0.false)) c.compact_by.result c.compact_by.ensures
