use Rattle.std.proofs.Common.{◌≡◌, Some, refl, subst, sym, rules}
use Rattle.offset_allocator.specs.AtOffset.{AllocatesAt, CanGrantAt}
use Rattle.offset_guarded.specs.Guard.{Guard, Ticket, handle_in}
use Rattle.offset_guarded.proofs.Guards.{granted_as, issued, same_limit_at, served}
use Rattle.offset_guarded.proofs.GuardedOf.allocate_at.Goals as goal

pub invariant_of-self-in-Some : goal.invariant_of-self-in-Some
invariant_of-self-in-Some g c =
    issued _ _ 0 _ _ _ _ _ c.self.invariant c.in-Some.ensures.grants c.ticket_for.ensures.cells c.ticket_for.ensures.given
    (same_limit_at c.args.offset c.args.size _ _ _ c.in-Some.ensures.step) c.ticket_for.ensures.room

pub returns-in-Some : goal.returns-in-Some
returns-in-Some g c = record {
  request = granted_as g.T.Index.NodeIndex.MAX c.args.size c.self.inside.realm c.self.inside.space c.allocate_at.new.self c.self.inside.serials c.ticket_for.new.serials c.in-Some.handle
      c.self.invariant c.in-Some.ensures.grants c.ticket_for.ensures.cells c.ticket_for.ensures.given c.ticket_for.ensures.table c.self.inside.step c.self.inside.step _ _ c.self.view_is c.ticket_for.ensures.ticket;
  granted = served (CanGrantAt c.args.offset c.args.size) _ _ c.self.view_is (c.is_spent.ensures.left c.if-is_spent.false) (c.in-Some.ensures.granted.0 refl);
  begins = subst (λ (t : Ticket). t.offset ≡ c.args.offset) (sym c.ticket_for.ensures.ticket) c.in-Some.ensures.begins;
  step = λ left.
      let w = c.allocate_at.new.self in
      subst (λ (t : Ticket). AllocatesAt c.args.offset c.args.size c.args.self.now.space w (Some (handle_in t))) (sym c.ticket_for.ensures.ticket)
      (subst (λ (k : Guard). AllocatesAt c.args.offset c.args.size k.space w (Some c.in-Some.handle)) c.self.view_is c.in-Some.ensures.step);
  same_step = search rules;
  accesses_max = search rules;
}
