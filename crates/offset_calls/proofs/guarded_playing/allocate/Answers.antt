use Rattle.offset_calls.proofs.{Common.refl, Tickets.stored, Tickets.stored_serials}
use Rattle.offset_calls.specs.declared.calls.Call.TheVariants as call
use Rattle.offset_script.specs.declared.scripts.Command.TheVariants as command
use Rattle.offset_script.proofs.Simulation.{if_ok}
use Rattle.offset_calls.proofs.guarded_playing.allocate.Goals as goal

pub returns : goal.returns
returns g c = if_ok c.keep.result
    (λ a k.
    let s = stored c.args.size c.args.player.now.space c.allocate-granted.new.self c.args.player.now.tickets.items c.keep.new.tickets.items c.allocate-granted.result _ c.requires.all_tickets
    c.allocate-granted.ensures.request.grants c.allocate-granted.ensures.request.same k in
    let cells = stored_serials c.args.size (call.Command (command.Alloc c.args.size)) c.args.player.now.space c.allocate-granted.new.self c.args.player.now.tickets.items c.keep.new.tickets.items c.allocate-granted.result _ (λ _ cells. refl)
    c.allocate-granted.ensures.request.grants c.allocate-granted.ensures.request.serials k in
    record { takes = (_, (_, c.allocate-granted.ensures.step c.requires.left, s.0), refl); all_tickets = s.1; grown = s.2; serials = cells; realm = s.3; step = c.allocate-granted.ensures.same_step })
    c.keep.ensures
