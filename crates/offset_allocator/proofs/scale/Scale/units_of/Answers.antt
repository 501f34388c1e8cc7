use Rattle.offset_allocator.proofs.Common.{◌≤◌, ◌/◌, ℕ, inl, inr, arith, cases_lt}
use Rattle.offset_allocator.proofs.Scaling.{IfSome-weaker, fewest, monotone, one_more, whole}
use Rattle.offset_allocator.proofs.scale.Scale.units_of.Goals as goal

pub returns-then-bytes-self-eq0-clause-fewest : goal.returns-then-bytes-self-eq0-clause-fewest
returns-then-bytes-self-eq0-clause-fewest c =
    IfSome-weaker c.narrow.result _ _ (λ n e k l. omega (arith, e, fewest c.args.self.unit c.args.bytes k (omega (arith, c.if-self-eq0.false)) l)) c.narrow.ensures.some

pub returns-then-bytes-self-eq0-clause-none : goal.returns-then-bytes-self-eq0-clause-none
returns-then-bytes-self-eq0-clause-none c =
    let u : ℕ = c.args.self.unit in
    let b : ℕ = c.args.bytes in
    let q : ℕ = b / u in
    let some : 1 ≤ u = omega (arith, c.if-self-eq0.false) in (
      λ h. inr (omega (arith, some, one_more u 4294967295 q (c.narrow.ensures.none.0 h), whole u b)),
      λ h. elim h [
        | inl z ↦ absurd (omega (arith, z, some))
        | inr l ↦ elim (cases_lt 4294967295 q) [
          | inl m ↦ c.narrow.ensures.none.1 m
          | inr m ↦ absurd (omega (arith, l, monotone u q 4294967295 m, whole u b, c.if-bytes-self-eq0.true))
        ]
      ],
    )

pub returns-clause-none : goal.returns-clause-none
returns-clause-none c =
    let u : ℕ = c.args.self.unit in
    let b : ℕ = c.args.bytes in
    let q : ℕ = b / u in
    let some : 1 ≤ u = omega (arith, c.if-self-eq0.false) in (
      λ h. inr (omega (arith, some, monotone u 4294967295 q (omega (arith, c.narrow-2.ensures.none.0 h, c.saturating_add.ensures)), whole u b, c.if-bytes-self-eq0.false)),
      λ h. elim h [
        | inl z ↦ absurd (omega (arith, z, some))
        | inr l ↦ elim (cases_lt q 4294967295) [
          | inl m ↦ absurd (omega (arith, l, one_more u q 4294967295 m, whole u b, some, c.if-bytes-self-eq0.false))
          | inr m ↦ c.narrow-2.ensures.none.1 (omega (arith, m, c.saturating_add.ensures))
        ]
      ],
    )
