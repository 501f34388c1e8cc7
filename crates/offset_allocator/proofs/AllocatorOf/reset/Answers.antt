use Rattle.offset_allocator.proofs.{Common.arith, Emptied.few_reset, Emptied.freed_sizes, Emptied.half_used, Views.Split.used_most}
use Rattle.offset_allocator.proofs.AllocatorOf.reset.Goals as goal

pub returns-then-block_count-le5-clause-accesses : goal.returns-then-block_count-le5-clause-accesses
returns-then-block_count-le5-clause-accesses g c = (omega (arith, c.free_all.ensures.accesses.0), omega (arith, c.free_all.ensures.accesses.1, c.block_count.ensures, used_most c.args.self.now.blocks))

pub returns-else-block_count-le5-clause-accesses : goal.returns-else-block_count-le5-clause-accesses
returns-else-block_count-le5-clause-accesses g c = grind (arith, half_used)

pub returns-then-block_count-le5-clause-step : goal.returns-then-block_count-le5-clause-step
returns-then-block_count-le5-clause-step g c = few_reset c.args.self.now c.free_all.new.self (omega (arith, c.block_count.ensures)) c.free_all.ensures.freed c.free_all.ensures.empty

pub returns-then-block_count-le5-clause-size : goal.returns-then-block_count-le5-clause-size
returns-then-block_count-le5-clause-size g c = (freed_sizes _ c.args.self.now c.free_all.new.self c.free_all.ensures.freed).0
