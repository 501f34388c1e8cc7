use Rattle.offset_guarded.proofs.Divisors.{divisor_some, joined_large, joined_small}
use Rattle.std.proofs.Common.{arith}
use Rattle.offset_guarded.proofs.step.common_multiple.Goals as goal

pub nonzero_div-multiple : goal.nonzero_div-multiple
nonzero_div-multiple c = divisor_some c.args.step c.args.align c.common_divisor-divisor.result c.requires c.common_divisor-divisor.ensures.common c.common_divisor-divisor.ensures.multiples

pub returns-then-multiple : goal.returns-then-multiple
returns-then-multiple c =
    joined_large c.args.step c.args.align c.common_divisor-divisor.result c.requires c.common_divisor-divisor.ensures.common c.common_divisor-divisor.ensures.multiples (omega (arith, c.if-multiple.true))

pub returns-else-multiple : goal.returns-else-multiple
returns-else-multiple c =
    joined_small c.args.step c.args.align c.common_divisor-divisor.result c.requires c.common_divisor-divisor.ensures.common c.common_divisor-divisor.ensures.multiples (omega (arith, c.if-multiple.false))
