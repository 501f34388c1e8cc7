use Rattle.std.proofs.Common.{◌≡◌, ◌∙◌, ℕ, None, Some, ap, subst, sym, rules}
use Rattle.offset_allocator.specs.Ranges.{size_of}
use Rattle.offset_allocator.specs.Moving.Relocating.{Relocates}
use Rattle.offset_guarded.specs.Answers.{Requests}
use Rattle.offset_guarded.specs.Guard.{Guard, Ticket, handle_in}
use Rattle.offset_guarded.proofs.Guards.{granted_as, guard, issued, same_limit_plain}
use Rattle.offset_guarded.proofs.GuardedOf.relocate_unaligned.Goals as goal

pub invariant_of-self-in-Some : goal.invariant_of-self-in-Some
invariant_of-self-in-Some g c =
    issued _ _ 0 _ _ _ _ _ c.self.invariant c.in-Some.ensures.grants c.ticket_for.ensures.cells c.ticket_for.ensures.given
    (same_limit_plain (size_of c.in_ok-handle.handle.name c.self.inside.space) _ _ _ c.in-Some.ensures.step.0) c.ticket_for.ensures.room

pub returns-in-Some : goal.returns-in-Some
returns-in-Some g c =
    let size : size_of c.in_ok-handle.handle.name c.self.inside.space ≡ size_of c.args.ticket.name c.args.self.now.space =
    ap (λ (x : ℕ). size_of x c.self.inside.space) c.in_ok-handle.ensures.range.0 ∙ ap (λ (k : Guard). size_of c.args.ticket.name k.space) c.self.view_is in
    record {
      second = record {
        live = search rules;
        request = subst (λ (n : ℕ). Requests n c.args.self.now (guard c.relocate.new.self c.ticket_for.new.serials c.self.inside.realm c.self.inside.step) (Some c.ticket_for.result)) size
            (granted_as g.T.Index.NodeIndex.MAX (size_of c.in_ok-handle.handle.name c.self.inside.space) c.self.inside.realm c.self.inside.space c.relocate.new.self c.self.inside.serials
            c.ticket_for.new.serials c.in-Some.second c.self.invariant c.in-Some.ensures.grants c.ticket_for.ensures.cells c.ticket_for.ensures.given c.ticket_for.ensures.table c.self.inside.step c.self.inside.step _ _ c.self.view_is c.ticket_for.ensures.ticket);
        before = search rules;
        accesses_max = search rules;
      };
      step = λ live left.
          subst (λ (t : Ticket). Relocates c.args.ticket.name c.args.self.now.space c.relocate.new.self (Some (handle_in t))) (sym c.ticket_for.ensures.ticket)
          (subst (λ (x : ℕ). Relocates x c.args.self.now.space c.relocate.new.self (Some c.in-Some.second)) c.in_ok-handle.ensures.range.0
          (subst (λ (k : Guard). Relocates c.in_ok-handle.handle.name k.space c.relocate.new.self (Some c.in-Some.second)) c.self.view_is c.in-Some.ensures.step));
      same_step = search rules;
    }

pub returns-in-None : goal.returns-in-None
returns-in-None g c = record {
  second = search rules;
  step = λ live left.
      subst (λ (x : ℕ). Relocates x c.args.self.now.space c.relocate.new.self None) c.in_ok-handle.ensures.range.0
      (subst (λ (k : Guard). Relocates c.in_ok-handle.handle.name k.space c.relocate.new.self None) c.self.view_is c.in-None.ensures.step);
  same_step = search rules;
}
