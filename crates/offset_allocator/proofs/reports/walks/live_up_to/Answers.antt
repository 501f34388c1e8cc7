use Rattle.offset_allocator.proofs.{Common.sym, Common.ap, Common.◌∙◌, Common.ℕ, Common.Some, Common.arith, Linking.Places.previous_place, Reporting.Nearby.used_back, Reporting.Nearby.none_back}
use Rattle.offset_allocator.proofs.{Reporting.Nearby.free_back}
use Rattle.offset_allocator.proofs.reports.walks.live_up_to.Goals as goal

pub returns-then-is_used-clause-last : goal.returns-then-is_used-clause-last
returns-then-is_used-clause-last g c m last spare p h a =
    ap Some (c.handle_of.ensures ∙ ap (λ (o : ℕ). record { name = c.args.name; offset = o }) c.offset.ensures.cell) ∙ used_back h (sym c.is_used.ensures.cell ∙ c.if-is_used.true)

pub returns-in_err-previous-clause-last : goal.returns-in_err-previous-clause-last
returns-in_err-previous-clause-last g c m last spare p h a =
    c.from_residual.ensures ∙ none_back h (sym c.is_used.ensures.cell ∙ c.if-is_used.false) (sym c.in_err-previous.was ∙ c.before-2.ensures.before)

pub offset-requires-2 : goal.offset-requires-2
offset-requires-2 g c = (previous_place c.requires.place.4 (sym c.in_ok-previous.was ∙ c.before-2.ensures.before)).place.below

pub handle_of-requires-2 : goal.handle_of-requires-2
handle_of-requires-2 g c = omega (arith, c.shape.ensures.within, c.shape.ensures.limit, (previous_place c.requires.place.4 (sym c.in_ok-previous.was ∙ c.before-2.ensures.before)).place.below)

pub returns-clause-last : goal.returns-clause-last
returns-clause-last g c m last spare p h a =
    ap Some (c.handle_of-2.ensures ∙ ap (λ (o : ℕ). record { name = c.in_ok-previous.previous; offset = o }) c.offset-2.ensures.cell)
    ∙ free_back h a (sym c.is_used.ensures.cell ∙ c.if-is_used.false) c.in_ok-previous.previous (sym c.in_ok-previous.was ∙ c.before-2.ensures.before)
