use Rattle.offset_allocator.proofs.{Common.arith, Classes.down_small, Classes.class_code}
use Rattle.offset_allocator.proofs.small_float.class_of.Goals as goal

pub overflow_add-result : goal.overflow_add-result
overflow_add-result c = omega (arith, class_code c.args.size c.args.exponent (omega arith) c.requires, down_small c.args.size)

pub returns : goal.returns
returns c = record { is = class_code _ _ (omega arith) c.requires }
