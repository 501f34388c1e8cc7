use Rattle.std.proofs.Common.{◌≡◌, ◌<◌, ◌+◌, ℕ, MatchOption, IfSome, length, ap, arith, subst, sym, ◌∙◌}
use Rattle.offset_allocator.specs.Requests.{blocks_needed}
use Rattle.offset_heaps.specs.{Heaps.Heaps, Heaps.room_of, Heaps.slot, Heaps.numbers, Relocating.TakesUnits}
use Rattle.offset_heaps.proofs.{Places.shown, Takers.all_takers, Takers.taker_there}
use Rattle.offset_heaps.proofs.HeapsOf.taker.Goals as goal

pub returns-clause-first : goal.returns-clause-first
returns-clause-first g c =
    let now : Heaps = shown c.self.inside.slots c.self.inside.limits c.self.inside.made c.self.inside.realm c.self.inside.accesses in
    let same : now ≡ record c.args.self.now { accesses = c.first_fit.new.self.accesses } = c.self.view_is ∙ c.first_fit.ensures.same in
    subst (λ (h : Heaps). MatchOption c.taker.result ((k : ℕ) → TakesUnits h.limits c.args.own c.args.size c.args.align c.args.live h.slots k → ⊥)
    (λ k. TakesUnits h.limits c.args.own c.args.size c.args.align c.args.live h.slots k
    × ((j : ℕ) → j < k → TakesUnits h.limits c.args.own c.args.size c.args.align c.args.live h.slots j → ⊥))) same
    (all_takers c.self.inside.limits c.args.own c.args.size c.args.align c.args.live c.in_ok-from.from (c.self.inside.limits.most + c.self.inside.limits.most_larger) c.self.inside.slots c.taker.result c.self.invariant.numbers
    (λ j l. omega (arith, subst (λ (h : Heaps). room_of h.limits j (blocks_needed c.args.align) (slot j h.slots) < c.units_for-units.result) (sym same) (c.in_ok-from.ensures.first.1 j l), c.units_for-units.ensures)) c.taker.ensures.first)

pub returns-clause-there : goal.returns-clause-there
returns-clause-there g c =
    let e = ap (λ (h : Heaps). h.slots) c.self.view_is ∙ ap (λ (h : Heaps). h.slots) c.first_fit.ensures.same in
    subst (λ s. IfSome c.taker.result (λ k. k < length s)) e
    (taker_there c.self.inside.limits c.args.own c.args.size c.args.align c.args.live (c.self.inside.limits.most + c.self.inside.limits.most_larger) c.in_ok-from.from c.self.inside.slots c.taker.result
    c.self.invariant.numbers c.taker.ensures.first)

pub returns-clause-accesses : goal.returns-clause-accesses
returns-clause-accesses g c bits enough =
    let e = ap (λ (h : Heaps). h.accesses) c.self.view_is in
    let n = ap numbers c.self.view_is ∙ ap numbers c.first_fit.ensures.same in
    let few = c.first_fit.ensures.accesses bits enough in
    let walked = c.taker.ensures.accesses in
    omega (arith, e, n, few, walked)
