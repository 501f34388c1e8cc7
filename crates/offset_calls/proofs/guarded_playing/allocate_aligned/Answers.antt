use Rattle.offset_calls.proofs.{Common.refl, Tickets.stored, Tickets.stored_serials, Tickets.stored_step}
use Rattle.offset_calls.specs.declared.calls.Call.TheVariants as call
use Rattle.offset_script.specs.declared.scripts.Command.TheVariants as command
use Rattle.offset_script.proofs.Simulation.{if_ok}
use Rattle.offset_calls.proofs.guarded_playing.allocate_aligned.Goals as goal

pub returns : goal.returns
returns g c = if_ok c.keep.result
    (λ a k.
    let s = stored c.args.size c.args.player.now.space c.allocate_aligned-granted.new.self c.args.player.now.tickets.items c.keep.new.tickets.items c.allocate_aligned-granted.result _ c.requires.all_tickets
    c.allocate_aligned-granted.ensures.request.grants c.allocate_aligned-granted.ensures.request.same k in
    let cells = stored_serials c.args.size (call.Command (command.Align c.args.size c.args.align)) c.args.player.now.space c.allocate_aligned-granted.new.self c.args.player.now.tickets.items c.keep.new.tickets.items c.allocate_aligned-granted.result _ (λ _ cells. refl)
    c.allocate_aligned-granted.ensures.request.grants c.allocate_aligned-granted.ensures.request.serials k in
    record { takes = (_, (_, c.allocate_aligned-granted.ensures.step c.requires.left, s.0), refl); all_tickets = s.1; grown = s.2; serials = cells; realm = s.3; step = stored_step c.args.align c.args.player.now.space c.allocate_aligned-granted.new.self c.args.player.now.tickets.items c.keep.new.tickets.items c.allocate_aligned-granted.result _ c.allocate_aligned-granted.ensures.aligns.joined c.allocate_aligned-granted.ensures.request.serials k })
    c.keep.ensures
