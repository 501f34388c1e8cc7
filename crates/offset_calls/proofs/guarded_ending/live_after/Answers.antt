use Rattle.offset_calls.proofs.{Common.ap, Common.◌∙◌, Common.live_name, Common.reply_view, EndServed.after_serves}
use Rattle.offset_calls.proofs.guarded_ending.live_after.Goals as goal

pub returns : goal.returns
returns g c k number =
    let live = c.is_live.ensures.0 c.if-not-is_live.false in
    after_serves c.args.player.now.space c.args.player.now.tickets.items c.requires.all_tickets c.requires.kept c.live_after.result _ (ap reply_view c.numbered.ensures)
    c.in-Some.ticket k live (number ∙ ap (λ o. live_name o c.args.player.now.space) c.in-Some.is) (c.live_after.ensures.after live)
