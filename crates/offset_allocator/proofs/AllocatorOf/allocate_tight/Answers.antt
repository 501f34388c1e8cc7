use Rattle.offset_allocator.proofs.Common.{◌≡◌, ℕ, List, inl, inr, ap, arith, sym, subst, length, CanGrant, units_needed}
use Rattle.offset_allocator.proofs.{Holding.can_hold, Holding.plain, Holding.grants_tight, Holding.largest_holds, Holding.plain_listed, Served.one_aligns}
use Rattle.offset_allocator.proofs.AllocatorOf.allocate_tight.Goals as goal

pub returns-clause-can_hold : goal.returns-clause-can_hold
returns-clause-can_hold g c = can_hold c.args.size 1 c.args.self.now c.serve_tight.new.self c.serve_tight.ensures.formed (omega arith) c.serve_tight.result c.serve_tight.ensures.step

pub returns-clause-granted : goal.returns-clause-granted
returns-clause-granted g c l =
    let h = can_hold c.args.size 1 c.args.self.now c.serve_tight.new.self c.serve_tight.ensures.formed (omega arith) c.serve_tight.result c.serve_tight.ensures.step in
    let k = largest_holds c.args.self.now c.args.size l in
    (λ s. k.0 (h.0 s), λ s. h.1 (k.1 s))

pub returns-clause-plain : goal.returns-clause-plain
returns-clause-plain g c can =
    let v = c.args.self.now in
    let w = c.serve_tight.new.self in
    let same : units_needed c.args.size 1 ≡ c.args.size = omega arith in
    one_aligns c.args.size v w c.serve_tight.result
    (plain c.args.size 1 v w c.serve_tight.ensures.formed (omega arith) c.serve_tight.result c.serve_tight.ensures.step (subst (λ (k : ℕ). CanGrant 1 k v) (sym same) can))

pub returns-clause-grants : goal.returns-clause-grants
returns-clause-grants g c = grants_tight c.args.size 1 c.args.self.now c.serve_tight.new.self c.serve_tight.ensures.formed (omega arith) c.serve_tight.result c.serve_tight.ensures.step

pub returns-clause-accesses : goal.returns-clause-accesses
returns-clause-accesses g c = elim c.serve_tight.ensures.accesses [
  | inl l ↦ (omega (arith, c.serve_tight.ensures.grows), omega (arith, l))
  | inr r ↦
      let v = c.args.self.now in
      let same : units_needed c.args.size 1 ≡ c.args.size = omega arith in
      let is = plain_listed v c.serve_tight.ensures.formed c.args.size (omega arith) (λ can. r.0 (subst (λ (k : ℕ). CanGrant 1 k v) (sym same) can)) r.1 in
      (omega (arith, c.serve_tight.ensures.grows), omega (arith, r.2, ap (λ (l : List ℕ). length l) is))
]
