use Rattle.std.proofs.Common.{ℕ, ◌≡◌, ◌+◌, ◌-◌, true, IfOk, arith, subst}
use Rattle.offset_heaps.specs.Heaps.{IsNext, NoneFits}
use Rattle.offset_heaps.proofs.HeapsOf.allocate.Goals as goal

pub returns-clause-made : goal.returns-clause-made
returns-clause-made g c =
    let all : c.args.size + 1 - 1 ≡ c.args.size = omega arith in
    subst (λ (units : ℕ). IfOk c.allocate_aligned.result (λ grant. grant.is_new ≡ true → NoneFits 1 units c.args.self.now × IsNext c.args.size grant.place.heap c.args.self.now)) all
    c.allocate_aligned.ensures.made
