use Rattle.std.proofs.Common.{arith}
use Rattle.std.proofs.lemmas.Nat.Gcd.{IsGcd-from_zero, IsGcd-from_mod}
use Rattle.offset_guarded.proofs.Divisors.{rest_multiple}
use Rattle.offset_guarded.proofs.step.common_divisor.Goals as goal

pub loop-rest-preserved : goal.loop-rest-preserved
loop-rest-preserved c = record {
  common = λ g h. c.loop-rest.invariant.common g (IsGcd-from_mod _ _ g h);
  multiples = λ z n p q. let m = c.loop-rest.invariant.multiples z n p q in (m.1, rest_multiple c.loop-rest.divisor c.loop-rest.rest z n m.0 m.1);
}

pub returns-clause-common : goal.returns-clause-common
returns-clause-common c = c.loop-rest.invariant.common _ (IsGcd-from_zero _ _ (omega arith))

pub returns-clause-multiples : goal.returns-clause-multiples
returns-clause-multiples c z n p q = (c.loop-rest.invariant.multiples z n p q).0
