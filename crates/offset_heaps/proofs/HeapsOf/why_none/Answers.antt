use Rattle.std.proofs.Common.{ℕ, ◌<◌, ◌≤◌, MatchOption, arith, ap, subst}
use Rattle.offset_heaps.specs.Heaps.{Heaps, IsSpareLarger, IsSpareUsual}
use Rattle.offset_heaps.proofs.{Finding.larger_first, Finding.usual_first, Refusals.why_larger, Refusals.why_usual}
use Rattle.offset_heaps.proofs.HeapsOf.why_none.Goals as goal

pub returns-then-is_usual-clause-why : goal.returns-then-is_usual-clause-why
returns-then-is_usual-clause-why g c =
    why_usual c.args.size c.args.self.now c.below.result c.why_not_made.result (c.is_usual.ensures.0 c.if-is_usual.true)
    (subst (λ (h : Heaps). MatchOption c.below.result ((k : ℕ) → IsSpareUsual c.args.size k h → ⊥) (λ k. IsSpareUsual c.args.size k h × ((j : ℕ) → j < k → IsSpareUsual c.args.size j h → ⊥))) c.self.view_is
    (usual_first g.T.Index.NodeIndex.MAX c.self.inside.slots c.self.inside.limits c.self.inside.made c.self.inside.index c.self.invariant c.self.inside.realm c.self.inside.accesses
    c.args.size c.first_at_least-found.result c.below.result c.requires.some c.first_at_least-found.ensures.first c.below.ensures))
    c.why_not_made.ensures.full c.why_not_made.ensures.left

pub returns-clause-why : goal.returns-clause-why
returns-clause-why g c =
    let limits = ap (λ (h : Heaps). h.limits.most_larger) c.self.view_is in
    let some : 1 ≤ c.args.self.now.limits.most_larger = omega (arith, limits, c.if-limits-eq0.false) in
    why_larger c.args.size c.args.self.now c.first_at_least-found-2.result c.why_not_made-2.result (λ usual. let b = c.is_usual.ensures.1 usual in let n = c.if-is_usual.false in cc) some
    (subst (λ (h : Heaps). MatchOption c.first_at_least-found-2.result ((k : ℕ) → IsSpareLarger k h → ⊥) (λ k. IsSpareLarger k h × ((j : ℕ) → j < k → IsSpareLarger j h → ⊥))) c.self.view_is
    (larger_first g.T.Index.NodeIndex.MAX c.self.inside.slots c.self.inside.limits c.self.inside.made c.self.inside.index c.self.invariant c.self.inside.realm c.self.inside.accesses
    c.first_at_least-found-2.result (omega arith) c.first_at_least-found-2.ensures.first))
    c.why_not_made-2.ensures.full c.why_not_made-2.ensures.left
