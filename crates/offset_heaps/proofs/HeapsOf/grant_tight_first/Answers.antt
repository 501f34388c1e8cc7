use Rattle.std.proofs.Common.{Some, ap, subst, sym}
use Rattle.offset_guarded.specs.Answers as tickets
use Rattle.offset_heaps.specs.{Heaps.Heaps, Heaps.MustRaiseIn, Heaps.heap_at, Slots.CanHoldIn, Slots.Changes, Slots.RaisesIn}
use Rattle.offset_heaps.proofs.Grants.{granted_raised}
use Rattle.offset_heaps.proofs.HeapsOf.grant_tight_first.Goals as goal

pub grant_tight_at-requires-clause-holds : goal.grant_tight_at-requires-clause-holds
grant_tight_at-requires-clause-holds g c =
    subst (λ l. CanHoldIn l c.args.number c.args.size c.args.align (heap_at c.args.number c.raise.new.self)) (sym (ap (λ (h : Heaps). h.limits) c.raise.ensures.rest))
    (c.in-Ok.ensures.holds c.args.size c.args.align c.requires.first.0)

pub returns-in-Ok-clause-grants : goal.returns-in-Ok-clause-grants
returns-in-Ok-clause-grants g c =
    granted_raised (λ t g h. tickets.AllocatesTightAligned c.args.size c.args.align g h (Some t)) c.args.size c.args.align c.args.self.now c.raise.new.self c.grant_tight_at.new.self c.args.number c.grant_tight_at.result c.requires.there
    (subst (λ b. Changes c.args.number (RaisesIn c.args.self.now.limits c.args.number b) c.args.self.now.slots c.raise.new.self.slots) c.min.ensures c.in-Ok.ensures.raises) c.raise.ensures.rest
    (λ must. c.in-Ok.ensures.stays (subst (λ b. MustRaiseIn c.args.self.now.limits c.args.number b (heap_at c.args.number c.raise.new.self)) (sym c.min.ensures) must)) c.grant_tight_at.ensures.found c.grant_tight_at.ensures.number c.grant_tight_at.ensures.grants
