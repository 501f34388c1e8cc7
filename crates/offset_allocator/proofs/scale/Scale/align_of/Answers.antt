use Rattle.offset_allocator.proofs.Common.{◌≡◌, ◌↔◌, ◌+◌, ◌*◌, ◌%◌, ◌≤◌, ◌/◌, ℕ, inl, inr, arith, cases_lt, subst, sym}
use Rattle.offset_allocator.proofs.Scaling.{IfSome-weaker, at_each, at_some, monotone, one_more, whole}
use Rattle.offset_allocator.proofs.scale.Scale.align_of.Goals as goal

pub returns-then-self-bytes-eq0-clause-exact : goal.returns-then-self-bytes-eq0-clause-exact
returns-then-self-bytes-eq0-clause-exact c o = (
  λ h. omega arith,
  λ h. at_each c.args.self.base c.args.self.unit c.args.bytes o (omega (arith, c.if-bytes-eq0.false)) c.if-self-bytes-ne0.false c.if-self-bytes-eq0.true,
)

pub returns-clause-exact : goal.returns-clause-exact
returns-clause-exact c =
    let a : ℕ = c.args.self.base in
    let u : ℕ = c.args.self.unit in
    let b : ℕ = c.args.bytes in
    IfSome-weaker c.narrow.result _ _
    (λ n e o. subst (λ w. (a + u * o) % b ≡ 0 ↔ o % w ≡ 0) (sym e) (at_some a u b o (omega (arith, c.if-self-eq0.false)) (omega (arith, c.if-bytes-eq0.false)) c.if-self-bytes-ne0.false c.if-bytes-self-ne0.false))
    c.narrow.ensures.some

pub returns-clause-none : goal.returns-clause-none
returns-clause-none c =
    let u : ℕ = c.args.self.unit in
    let b : ℕ = c.args.bytes in
    let some : 1 ≤ u = omega (arith, c.if-self-eq0.false) in
    let not : 1 ≤ u % b = omega (arith, c.if-self-bytes-eq0.false) in (
      λ h. inr (inr (inr (not, inr (omega (arith, some, one_more u 4294967295 (b / u) (c.narrow.ensures.none.0 h), whole u b))))),
      λ h. elim h [
        | inl z ↦ absurd (omega (arith, z, some))
        | inr (inl z) ↦ absurd (c.if-bytes-eq0.false z)
        | inr (inr (inl l)) ↦ absurd (omega (arith, l, c.if-self-bytes-ne0.false))
        | inr (inr (inr (n, inl l))) ↦ absurd (omega (arith, l, c.if-bytes-self-ne0.false))
        | inr (inr (inr (n, inr l))) ↦ elim (cases_lt 4294967295 (b / u)) [
          | inl m ↦ c.narrow.ensures.none.1 m
          | inr m ↦ absurd (omega (arith, l, monotone u (b / u) 4294967295 m, whole u b, c.if-bytes-self-ne0.false))
        ]
      ],
    )
