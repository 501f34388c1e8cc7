use Rattle.std.proofs.Common.{arith}
use Rattle.offset_guarded.proofs.Guards.{raised}
use Rattle.offset_guarded.proofs.GuardedOf.try_clone.Goals as goal

pub invariant_of-result : goal.invariant_of-result
invariant_of-result g c = raised c.self.invariant c.in_ok-space.ensures c.in_ok-serials.ensures.cells c.in_ok-serials.ensures.given (omega (arith, c.in_ok-serials.ensures.room, c.max_allocs.ensures)) c.self.invariant.admitted
