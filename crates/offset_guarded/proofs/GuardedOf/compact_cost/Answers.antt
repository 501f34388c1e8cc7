use Rattle.std.proofs.Common.{ap}
use Rattle.offset_guarded.specs.Guard.{Guard}
use Rattle.offset_guarded.proofs.GuardedOf.compact_cost.Goals as goal

pub returns-clause-granted : goal.returns-clause-granted
returns-clause-granted g c = rw (c.step_number-step.ensures, ap (λ (k : Guard). k.space) c.self.view_is) at c.compact_cost_by.ensures.granted
