use Rattle.std.proofs.Common.{◌≡◌, ◌%◌, Some, refl, subst, sym, rules}
use Rattle.offset_allocator.specs.Tight.{AlignsTight, CanHold}
use Rattle.offset_guarded.specs.Guard.{Guard, Ticket, handle_in}
use Rattle.offset_guarded.specs.Step.{IsJoined}
use Rattle.offset_guarded.proofs.Guards.{granted_as, issued, same_limit_tight, served}
use Rattle.offset_guarded.proofs.GuardedOf.allocate_tight_aligned.Goals as goal

pub invariant_of-self-in-Some : goal.invariant_of-self-in-Some
invariant_of-self-in-Some g c =
    issued _ _ 0 _ _ _ _ _ c.self.invariant c.in-Some.ensures.grants c.ticket_for.ensures.cells c.ticket_for.ensures.given
    (same_limit_tight c.args.size c.args.align _ _ _ c.in-Some.ensures.step) c.ticket_for.ensures.room

pub returns-in-Some : goal.returns-in-Some
returns-in-Some g c = record {
  request = granted_as g.T.Index.NodeIndex.MAX c.args.size c.self.inside.realm c.self.inside.space c.allocate_tight_aligned.new.self c.self.inside.serials c.ticket_for.new.serials c.in-Some.handle
      c.self.invariant c.in-Some.ensures.grants c.ticket_for.ensures.cells c.ticket_for.ensures.given c.ticket_for.ensures.table c.self.inside.step c.joined-self-inside.result _ _ c.self.view_is c.ticket_for.ensures.ticket;
  aligns = record {
    aligned = subst (λ (t : Ticket). t.offset % c.args.align ≡ 0) (sym c.ticket_for.ensures.ticket) c.in-Some.ensures.aligned;
    joined = subst (λ (k : Guard). IsJoined k.step c.args.align c.joined-self-inside.result) c.self.view_is c.joined-self-inside.ensures;
  };
  can_hold = served (CanHold c.args.size c.args.align) _ _ c.self.view_is (c.is_spent.ensures.left c.if-is_spent.false) (c.in-Some.ensures.can_hold.0 refl);
  step = λ left.
      let w = c.allocate_tight_aligned.new.self in
      subst (λ (t : Ticket). AlignsTight c.args.size c.args.align c.args.self.now.space w (Some (handle_in t))) (sym c.ticket_for.ensures.ticket)
      (subst (λ (k : Guard). AlignsTight c.args.size c.args.align k.space w (Some c.in-Some.handle)) c.self.view_is c.in-Some.ensures.step);
  accesses_max = search rules;
}
