use Rattle.std.proofs.Common.{ℕ, ◌≤◌, Option, ap, arith, subst₂, inl, inr}
use Rattle.std.proofs.lemmas.Bool.{cases_eq}
use Rattle.std.specs.Int.{IsGcd}
use Rattle.std.specs.Prelude.{unwrap_or}
use Rattle.offset_guarded.proofs.Divisors.{divisor_of_some}
use Rattle.offset_heaps.proofs.heap.alignment_in.Goals as goal

pub returns-clause-own : goal.returns-clause-own
returns-clause-own g c =
    subst₂ (λ (n s : ℕ). IsGcd n s c.common_divisor.result) (ap (λ (q : Option ℕ). unwrap_or q 0) c.in_ok-offset.ensures) c.in_ok-step.ensures.some c.common_divisor.ensures

pub returns-clause-some : goal.returns-clause-some
returns-clause-some g c =
    let some : 1 ≤ c.args.heap.now.step = elim (cases_eq c.args.heap.now.step 0) [ inl e ↦ absurd (let none = c.in_ok-step.ensures.none.1 e in cc) | inr d ↦ omega (arith, d) ] in
    divisor_of_some c.common_divisor.result c.in_ok-step.step c.common_divisor.ensures.1 (let same = c.in_ok-step.ensures.some in omega (arith, same, some))
