use Rattle.offset_allocator.proofs.{Common.sym, Common.ap, Common.◌∙◌, Common.ℕ, Common.Some, Common.arith, Linking.Places.next_place, Reporting.Nearby.used_on, Reporting.Nearby.none_on}
use Rattle.offset_allocator.proofs.{Reporting.Nearby.free_on}
use Rattle.offset_allocator.proofs.reports.walks.live_from.Goals as goal

pub returns-then-is_used-clause-first : goal.returns-then-is_used-clause-first
returns-then-is_used-clause-first g c m last spare p h a =
    ap Some (c.handle_of.ensures ∙ ap (λ (o : ℕ). record { name = c.args.name; offset = o }) c.offset.ensures.cell) ∙ used_on h (sym c.is_used.ensures.cell ∙ c.if-is_used.true)

pub returns-in_err-following-clause-first : goal.returns-in_err-following-clause-first
returns-in_err-following-clause-first g c m last spare p h a =
    c.from_residual.ensures ∙ none_on h (sym c.is_used.ensures.cell ∙ c.if-is_used.false) (sym c.in_err-following.was ∙ c.after.ensures.after)

pub offset-requires-2 : goal.offset-requires-2
offset-requires-2 g c = (next_place c.requires.place.4 (sym c.in_ok-following.was ∙ c.after.ensures.after)).place.below

pub handle_of-requires-2 : goal.handle_of-requires-2
handle_of-requires-2 g c = omega (arith, c.shape.ensures.within, c.shape.ensures.limit, (next_place c.requires.place.4 (sym c.in_ok-following.was ∙ c.after.ensures.after)).place.below)

pub returns-clause-first : goal.returns-clause-first
returns-clause-first g c m last spare p h a =
    ap Some (c.handle_of-2.ensures ∙ ap (λ (o : ℕ). record { name = c.in_ok-following.following; offset = o }) c.offset-2.ensures.cell)
    ∙ free_on h a (sym c.is_used.ensures.cell ∙ c.if-is_used.false) c.in_ok-following.following (sym c.in_ok-following.was ∙ c.after.ensures.after)
