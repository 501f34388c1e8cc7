use Rattle.offset_calls.proofs.{Common.ap, Common.◌∙◌, Common.live_name, EndServed.relocate_serves}
use Rattle.offset_calls.proofs.guarded_ending.relocate.Goals as goal

pub returns : goal.returns
returns g c k number =
    let live = c.is_live.ensures.0 c.if-not-is_live.false in
    relocate_serves c.args.player.now.space c.relocate_unaligned-granted.new.self c.args.player.now.tickets.items c.keep.new.tickets.items c.in-Some.ticket c.relocate_unaligned-granted.result _ k c.requires.all_tickets live
    (number ∙ ap (λ o. live_name o c.args.player.now.space) c.in-Some.is) c.relocate_unaligned-granted.ensures.second.request.grants c.relocate_unaligned-granted.ensures.second.request.same c.relocate_unaligned-granted.ensures.second.request.serials c.relocate_unaligned-granted.ensures.same_step (c.relocate_unaligned-granted.ensures.step live c.requires.left)
    c.in_ok-keep.ensures
