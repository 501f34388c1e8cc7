use Rattle.offset_allocator.proofs.{Common.arith, Common.ap, Common.sum, Common.View, Common.free_sizes, Always.adds_up}
use Rattle.offset_allocator.proofs.AllocatorOf.live_units.Goals as goal

pub overflow_sub-result : goal.overflow_sub-result
overflow_sub-result g c =
    omega (arith, adds_up c.args.self.now c.formed.ensures, c.self.invariant.total, ap (λ (v : View). sum (free_sizes v.blocks)) c.self.view_is, ap (λ (v : View). v.size) c.self.view_is)

pub returns : goal.returns
returns g c =
    omega (arith, adds_up c.args.self.now c.formed.ensures, c.self.invariant.total, ap (λ (v : View). sum (free_sizes v.blocks)) c.self.view_is, ap (λ (v : View). v.size) c.self.view_is)
