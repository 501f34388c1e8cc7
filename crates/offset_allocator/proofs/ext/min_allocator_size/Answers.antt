use Rattle.offset_allocator.proofs.{Common.arith, Classes.value_up_fits, Classes.below_value_up}
use Rattle.offset_allocator.proofs.ext.min_allocator_size.Goals as goal

pub float_to_uint-requires : goal.float_to_uint-requires
float_to_uint-requires c = grind (arith, below_value_up)

pub returns : goal.returns
returns c = grind (arith, value_up_fits)
