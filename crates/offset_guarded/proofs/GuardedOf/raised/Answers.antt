use Rattle.std.proofs.Common.{arith}
use Rattle.offset_guarded.proofs.Guards.{raised}
use Rattle.offset_guarded.proofs.GuardedOf.raised.Goals as goal

pub invariant_of-result : goal.invariant_of-result
invariant_of-result g c = raised c.self.invariant c.in_ok-space.ensures c.in_ok-serials.ensures.cells c.in_ok-serials.ensures.given c.in_ok-serials.ensures.room (omega (arith, c.requires.limit_max))
