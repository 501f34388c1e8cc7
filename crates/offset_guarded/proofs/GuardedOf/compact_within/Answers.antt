use Rattle.std.proofs.Common.{arith}
use Rattle.offset_guarded.proofs.ByTheStep.{none_within, within}
use Rattle.offset_guarded.proofs.GuardedOf.compact_within.Goals as goal

pub returns-then-step-eq0 : goal.returns-then-step-eq0
returns-then-step-eq0 g c = none_within _ _ c.args.self.now (omega (arith, c.step_number-step.ensures, c.if-step-eq0.true)) c.args.from c.args.most_units c.args.most_ranges

pub returns : goal.returns
returns g c = within _ _ c.args.self.now c.compact_within_by.new.self _ c.step_number-step.result c.step_number-step.ensures (omega (arith, c.if-step-eq0.false)) c.args.from c.args.most_units c.args.most_ranges c.compact_within_by.result c.compact_within_by.ensures
