use Rattle.std.proofs.Common.{◌≤◌, arith, sym, ◌∙◌}
use Rattle.offset_heaps.proofs.{Finders.holds, Places.shown, Refusals.answered, Refusals.served, Refusals.unserved}
use Rattle.offset_heaps.proofs.tight.refusal_tight_aligned_counted.Goals as goal

pub returns-then-is_some-clause-why : goal.returns-then-is_some-clause-why
returns-then-is_some-clause-why g c =
    let some : 1 ≤ c.args.size = omega (arith, c.if-size-eq0.false) in
    rw (← c.heaps.view_is) (served (holds c.args.size c.args.align) c.args.size c.args.align (shown c.heaps.inside.slots c.heaps.inside.limits c.heaps.inside.made c.heaps.inside.realm c.heaps.inside.accesses)
    c.first_holding.result some c.first_holding.ensures.first (sym c.is_some.ensures ∙ c.if-is_some.true))

pub returns-clause-why : goal.returns-clause-why
returns-clause-why g c =
    let some : 1 ≤ c.args.size = omega (arith, c.if-size-eq0.false) in
    rw (← c.heaps.view_is) (answered (holds c.args.size c.args.align) c.args.size c.args.align (shown c.heaps.inside.slots c.heaps.inside.limits c.heaps.inside.made c.heaps.inside.realm c.heaps.inside.accesses)
    c.why_none.result some
    (unserved (holds c.args.size c.args.align) c.args.size c.args.align (shown c.heaps.inside.slots c.heaps.inside.limits c.heaps.inside.made c.heaps.inside.realm c.heaps.inside.accesses) c.first_holding.result
    c.first_holding.ensures.first (sym c.is_some.ensures ∙ c.if-is_some.false))
    (rw c.heaps.view_is c.why_none.ensures.why))
