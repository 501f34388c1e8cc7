use Rattle.offset_allocator.proofs.{Common.arith, Common.common_steps, Always.few_blocks}
use Rattle.offset_allocator.proofs.laws.blocks_are_few.Goals as goal

pub returns : goal.returns
returns g c = grind (arith, common_steps, few_blocks)
