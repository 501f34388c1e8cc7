use Rattle.std.proofs.Common.{◌≡◌, ◌%◌, ℕ, None, Some, ap, subst, sym}
use Rattle.offset_allocator.specs.Ranges.{size_of}
use Rattle.offset_allocator.specs.Moving.Relocating.{RelocatesAligned}
use Rattle.offset_guarded.specs.Answers.{Requests}
use Rattle.offset_guarded.specs.Guard.{Guard, Ticket, handle_in}
use Rattle.offset_guarded.specs.Step.{IsJoined}
use Rattle.offset_guarded.proofs.Guards.{granted_as, guard, issued, same_limit}
use Rattle.offset_guarded.proofs.GuardedOf.second.Goals as goal

pub invariant_of-self-in-Some : goal.invariant_of-self-in-Some
invariant_of-self-in-Some g c =
    issued _ _ 0 _ _ _ _ _ c.self.invariant c.in-Some.ensures.grants c.ticket_for.ensures.cells c.ticket_for.ensures.given
    (same_limit (size_of c.args.handle.name c.self.inside.space) c.args.align _ _ _ c.in-Some.ensures.step.0) c.ticket_for.ensures.room

pub returns-in-Some-clause-request : goal.returns-in-Some-clause-request
returns-in-Some-clause-request g c =
    let size : size_of c.args.handle.name c.self.inside.space ≡ size_of c.args.handle.name c.args.self.now.space =
    ap (λ (k : Guard). size_of c.args.handle.name k.space) c.self.view_is in
    subst (λ (n : ℕ). Requests n c.args.self.now (guard c.relocate_aligned.new.self c.ticket_for.new.serials c.self.inside.realm c.joined-self-inside.result) (Some c.ticket_for.result)) size
    (granted_as g.T.Index.NodeIndex.MAX (size_of c.args.handle.name c.self.inside.space) c.self.inside.realm c.self.inside.space c.relocate_aligned.new.self c.self.inside.serials
    c.ticket_for.new.serials c.in-Some.second c.self.invariant c.in-Some.ensures.grants c.ticket_for.ensures.cells c.ticket_for.ensures.given c.ticket_for.ensures.table c.self.inside.step c.joined-self-inside.result _ _ c.self.view_is c.ticket_for.ensures.ticket)

pub returns-in-Some-clause-step : goal.returns-in-Some-clause-step
returns-in-Some-clause-step g c left =
    subst (λ (t : Ticket). RelocatesAligned c.args.handle.name c.args.align c.args.self.now.space c.relocate_aligned.new.self (Some (handle_in t))) (sym c.ticket_for.ensures.ticket)
    (subst (λ (k : Guard). RelocatesAligned c.args.handle.name c.args.align k.space c.relocate_aligned.new.self (Some c.in-Some.second)) c.self.view_is c.in-Some.ensures.step)

pub returns-in-None-clause-step : goal.returns-in-None-clause-step
returns-in-None-clause-step g c left =
    subst (λ (k : Guard). RelocatesAligned c.args.handle.name c.args.align k.space c.relocate_aligned.new.self None) c.self.view_is c.in-None.ensures.step

pub returns-in-Some-clause-aligns : goal.returns-in-Some-clause-aligns
returns-in-Some-clause-aligns g c = record {
  aligned = subst (λ (t : Ticket). t.offset % c.args.align ≡ 0) (sym c.ticket_for.ensures.ticket) c.in-Some.ensures.aligned;
  joined = subst (λ (k : Guard). IsJoined k.step c.args.align c.joined-self-inside.result) c.self.view_is c.joined-self-inside.ensures;
}
