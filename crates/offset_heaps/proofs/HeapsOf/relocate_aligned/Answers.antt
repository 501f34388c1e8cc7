use Rattle.std.proofs.Common.{Some, ap, arith, refl, subst, sym}
use Rattle.offset_guarded.specs.Answers as tickets
use Rattle.offset_heaps.specs.{Heaps.Heaps, Heaps.Grants, Heaps.numbers, Relocating.IsTaker}
use Rattle.offset_heaps.proofs.{Grants.granted_since, Grants.not_live_before, Grants.others_kept, Grants.range_granted, Places.shown, Takers.size_here, Takers.takes_range, Takers.takes_units}
use Rattle.offset_heaps.proofs.HeapsOf.relocate_aligned.Goals as goal

pub returns-in_err-number-clause-none : goal.returns-in_err-number-clause-none
returns-in_err-number-clause-none g c =
    let old = shown c.self.inside.slots c.self.inside.limits c.self.inside.made c.self.inside.realm c.self.inside.accesses in
    rw (← c.self.view_is) (
      λ _ k t. (rw c.split-own.ensures at c.in_err-number.ensures.first) k
          (takes_units c.args.place c.args.align old c.in_ok-size.size c.in_ok-size.live (rw c.split-own.ensures at c.if-realm-self.false) (rw c.split-own.ensures at c.in_ok-size.ensures.units) (rw c.split-own.ensures at c.in_ok-size.ensures.all) k t),
      λ _. c.from_residual-in_err-number.ensures,
    )

pub returns-in_err-number-clause-accesses : goal.returns-in_err-number-clause-accesses
returns-in_err-number-clause-accesses g c bits enough =
    let all = ap numbers c.self.view_is in
    let start = ap (λ (h : Heaps). h.accesses) c.self.view_is in
    let asked = c.units_at.ensures.accesses in
    let few = c.taker.ensures.accesses bits (omega (arith, all, enough)) in
    omega (arith, all, start, asked, few)

pub returns-clause-none : goal.returns-clause-none
returns-clause-none g c =
    let old = shown c.self.inside.slots c.self.inside.limits c.self.inside.made c.self.inside.realm c.self.inside.accesses in
    rw (← c.self.view_is) (
      λ e. absurd (cc),
      λ none. absurd (none c.in_ok-number.number
          (takes_range c.args.place c.args.align old c.in_ok-size.size c.in_ok-size.live (rw c.split-own.ensures at c.if-realm-self.false) (rw c.split-own.ensures at c.in_ok-size.ensures.units) (rw c.split-own.ensures at c.in_ok-size.ensures.all)
          c.in_ok-number.number (rw c.split-own.ensures at (c.in_ok-size.ensures.live.0 refl)) (rw c.split-own.ensures at c.in_ok-number.ensures.first.0))),
    )

pub returns-clause-first : goal.returns-clause-first
returns-clause-first g c =
    let old = shown c.self.inside.slots c.self.inside.limits c.self.inside.made c.self.inside.realm c.self.inside.accesses in
    rw (← c.self.view_is) (subst (IsTaker c.args.place c.args.align old) (sym c.grant_at.ensures.number) (
      takes_range c.args.place c.args.align old c.in_ok-size.size c.in_ok-size.live (rw c.split-own.ensures at c.if-realm-self.false) (rw c.split-own.ensures at c.in_ok-size.ensures.units) (rw c.split-own.ensures at c.in_ok-size.ensures.all)
          c.in_ok-number.number (rw c.split-own.ensures at (c.in_ok-size.ensures.live.0 refl)) (rw c.split-own.ensures at c.in_ok-number.ensures.first.0),
      λ j l t. (rw c.split-own.ensures at c.in_ok-number.ensures.first.1) j l
          (takes_units c.args.place c.args.align old c.in_ok-size.size c.in_ok-size.live (rw c.split-own.ensures at c.if-realm-self.false) (rw c.split-own.ensures at c.in_ok-size.ensures.units) (rw c.split-own.ensures at c.in_ok-size.ensures.all) j t),
    ))

pub returns-clause-grants : goal.returns-clause-grants
returns-clause-grants g c =
    let old = shown c.self.inside.slots c.self.inside.limits c.self.inside.made c.self.inside.realm c.self.inside.accesses in
    rw (← c.self.view_is)
    (subst (λ n. Grants n c.args.align old c.grant_at.new.self c.grant_at.result)
    (size_here c.args.place c.args.align old c.in_ok-size.size c.in_ok-size.live (rw c.split-own.ensures at c.if-realm-self.false) (rw c.split-own.ensures at c.in_ok-size.ensures.units) (rw c.split-own.ensures at c.in_ok-size.ensures.all))
    (granted_since (λ t g h. tickets.AllocatesAligned c.in_ok-size.size c.args.align g h (Some t)) c.in_ok-size.size c.args.align old c.taker.new.self c.grant_at.new.self c.grant_at.result c.taker.ensures.same c.grant_at.ensures.grants))

pub returns-clause-not_live : goal.returns-clause-not_live
returns-clause-not_live g c =
    let old = shown c.self.inside.slots c.self.inside.limits c.self.inside.made c.self.inside.realm c.self.inside.accesses in
    rw (← c.self.view_is)
    (not_live_before (λ t g h. tickets.AllocatesAligned c.in_ok-size.size c.args.align g h (Some t)) c.in_ok-size.size c.args.align (λ t g h a. a.request) old c.grant_at.new.self c.grant_at.result
    (granted_since (λ t g h. tickets.AllocatesAligned c.in_ok-size.size c.args.align g h (Some t)) c.in_ok-size.size c.args.align old c.taker.new.self c.grant_at.new.self c.grant_at.result c.taker.ensures.same c.grant_at.ensures.grants))

pub returns-clause-range : goal.returns-clause-range
returns-clause-range g c =
    let old = shown c.self.inside.slots c.self.inside.limits c.self.inside.made c.self.inside.realm c.self.inside.accesses in
    rw (← c.self.view_is, ← size_here c.args.place c.args.align old c.in_ok-size.size c.in_ok-size.live (rw c.split-own.ensures at c.if-realm-self.false) (rw c.split-own.ensures at c.in_ok-size.ensures.units) (rw c.split-own.ensures at c.in_ok-size.ensures.all))
    (range_granted (λ t g h. tickets.AllocatesAligned c.in_ok-size.size c.args.align g h (Some t)) c.in_ok-size.size c.args.align (λ t g h a. a.request) old c.grant_at.new.self c.grant_at.result
    (granted_since (λ t g h. tickets.AllocatesAligned c.in_ok-size.size c.args.align g h (Some t)) c.in_ok-size.size c.args.align old c.taker.new.self c.grant_at.new.self c.grant_at.result c.taker.ensures.same c.grant_at.ensures.grants))

pub returns-clause-others : goal.returns-clause-others
returns-clause-others g c =
    let old = shown c.self.inside.slots c.self.inside.limits c.self.inside.made c.self.inside.realm c.self.inside.accesses in
    rw (← c.self.view_is)
    (others_kept (λ t g h. tickets.AllocatesAligned c.in_ok-size.size c.args.align g h (Some t)) c.in_ok-size.size c.args.align (λ t g h a. a.request) old c.grant_at.new.self c.grant_at.result
    (granted_since (λ t g h. tickets.AllocatesAligned c.in_ok-size.size c.args.align g h (Some t)) c.in_ok-size.size c.args.align old c.taker.new.self c.grant_at.new.self c.grant_at.result c.taker.ensures.same c.grant_at.ensures.grants))

pub returns-clause-accesses : goal.returns-clause-accesses
returns-clause-accesses g c bits enough =
    let all = ap numbers c.self.view_is in
    let start = ap (λ (h : Heaps). h.accesses) c.self.view_is in
    let asked = c.units_at.ensures.accesses in
    let same = ap numbers c.taker.ensures.same in
    let few = c.taker.ensures.accesses bits (omega (arith, all, enough)) in
    let more = c.grant_at.ensures.accesses bits (omega (arith, all, enough, same)) in
    omega (arith, all, start, asked, few, more)
