use Rattle.offset_allocator.proofs.Holding.{tight_of}
use Rattle.offset_allocator.proofs.AllocatorOf.serve_tight.Goals as goal

pub returns-then-admits_blocks-clause-step : goal.returns-then-admits_blocks-clause-step
returns-then-admits_blocks-clause-step g c =
    tight_of c.args.size c.args.align c.args.self.now c.serve.new.self c.look_further.new.self c.look_further.result c.in-None.ensures.step.0 c.in-None.ensures.step.1 c.look_further.ensures.step
