use Rattle.offset_calls.proofs.{Common.refl, Tickets.stored, Tickets.stored_serials}
use Rattle.offset_calls.specs.declared.calls.Call.TheVariants as call
use Rattle.offset_calls.proofs.guarded_playing.allocate_tight.Goals as goal

pub returns : goal.returns
returns g c =
    let s = stored c.args.size c.args.player.now.space c.allocate_tight-granted.new.self c.args.player.now.tickets.items c.keep.new.tickets.items c.allocate_tight-granted.result _ c.requires.all_tickets
    c.allocate_tight-granted.ensures.request.grants c.allocate_tight-granted.ensures.request.same c.in_ok-keep.ensures in
    let cells = stored_serials c.args.size (call.AllocateTight c.args.size) c.args.player.now.space c.allocate_tight-granted.new.self c.args.player.now.tickets.items c.keep.new.tickets.items c.allocate_tight-granted.result _ (λ _ cells. refl)
    c.allocate_tight-granted.ensures.request.grants c.allocate_tight-granted.ensures.request.serials c.in_ok-keep.ensures in
    record { takes = (_, _, c.allocate_tight-granted.ensures.step c.requires.left, s.0, refl); all_tickets = s.1; grown = s.2; serials = cells; realm = s.3; step = c.allocate_tight-granted.ensures.same_step }
