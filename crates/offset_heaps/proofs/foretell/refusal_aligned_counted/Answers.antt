use Rattle.std.proofs.Common.{◌+◌, ◌-◌, ◌≤◌, arith, sym, ◌∙◌}
use Rattle.offset_allocator.specs.Requests.{blocks_needed, units_needed}
use Rattle.offset_heaps.proofs.{Finders.fits, Finding.first_fits, Places.shown, Refusals.answered, Refusals.served, Refusals.unserved}
use Rattle.offset_heaps.proofs.foretell.refusal_aligned_counted.Goals as goal

pub returns-then-is_some-clause-why : goal.returns-then-is_some-clause-why
returns-then-is_some-clause-why g c =
    let some : 1 ≤ c.args.size = omega (arith, c.if-size-eq0.false) in
    rw (← c.heaps.view_is) (served (fits (blocks_needed c.args.align) (units_needed c.args.size c.args.align)) c.args.size c.args.align (shown c.heaps.inside.slots c.heaps.inside.limits c.heaps.inside.made c.heaps.inside.realm c.heaps.inside.accesses) c.first_fit.result some
    (first_fits g.T.Index.NodeIndex.MAX c.heaps.inside.slots c.heaps.inside.limits c.heaps.inside.made c.heaps.inside.index c.heaps.invariant c.heaps.inside.realm c.heaps.inside.accesses
    (c.args.size + c.args.align - 1) c.args.align c.first_fit.result c.requires.alignment c.first_fit.ensures.one c.first_fit.ensures.two) (sym c.is_some.ensures ∙ c.if-is_some.true))

pub returns-clause-why : goal.returns-clause-why
returns-clause-why g c =
    let some : 1 ≤ c.args.size = omega (arith, c.if-size-eq0.false) in
    rw (← c.heaps.view_is) (answered (fits (blocks_needed c.args.align) (units_needed c.args.size c.args.align)) c.args.size c.args.align (shown c.heaps.inside.slots c.heaps.inside.limits c.heaps.inside.made c.heaps.inside.realm c.heaps.inside.accesses) c.why_none.result some
    (unserved (fits (blocks_needed c.args.align) (units_needed c.args.size c.args.align)) c.args.size c.args.align (shown c.heaps.inside.slots c.heaps.inside.limits c.heaps.inside.made c.heaps.inside.realm c.heaps.inside.accesses) c.first_fit.result
    (first_fits g.T.Index.NodeIndex.MAX c.heaps.inside.slots c.heaps.inside.limits c.heaps.inside.made c.heaps.inside.index c.heaps.invariant c.heaps.inside.realm c.heaps.inside.accesses
    (c.args.size + c.args.align - 1) c.args.align c.first_fit.result c.requires.alignment c.first_fit.ensures.one c.first_fit.ensures.two) (sym c.is_some.ensures ∙ c.if-is_some.false))
    (rw c.heaps.view_is c.why_none.ensures.why))
