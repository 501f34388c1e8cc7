use Rattle.offset_allocator.proofs.Common.{◌-◌, ◌≤◌, ◌/◌, ℕ, inl, inr, arith, cases_lt}
use Rattle.offset_allocator.proofs.Scaling.{monotone, one_more, whole}
use Rattle.offset_allocator.proofs.scale.Scale.offset_at.Goals as goal

pub returns-clause-none : goal.returns-clause-none
returns-clause-none c =
    let u : ℕ = c.args.self.unit in
    let n : ℕ = c.args.address - c.args.self.base in
    let some : 1 ≤ u = omega (arith, c.if-self-eq0.false) in
    let begun : c.args.self.base ≤ c.args.address = omega (arith, c.if-address-self.false) in (
      λ h. inr (inr (omega (arith, begun, monotone u 4294967296 (n / u) (c.narrow.ensures.none.0 h), whole u n))),
      λ h. elim h [
        | inl z ↦ absurd (omega (arith, z, some))
        | inr (inl l) ↦ absurd (omega (arith, l, begun))
        | inr (inr l) ↦ elim (cases_lt (n / u) 4294967296) [
          | inl m ↦ absurd (omega (arith, l, begun, one_more u (n / u) 4294967296 m, whole u n, some))
          | inr m ↦ c.narrow.ensures.none.1 m
        ]
      ],
    )
