use Rattle.offset_calls.proofs.{Common.ap, Common.◌∙◌, Common.live_name, Common.reply_view, EndServed.before_serves}
use Rattle.offset_calls.proofs.guarded_ending.live_before.Goals as goal

pub returns : goal.returns
returns g c k number =
    let live = c.is_live.ensures.0 c.if-not-is_live.false in
    before_serves c.args.player.now.space c.args.player.now.tickets.items c.requires.all_tickets c.requires.kept c.live_before.result _ (ap reply_view c.numbered.ensures)
    c.in-Some.ticket k live (number ∙ ap (λ o. live_name o c.args.player.now.space) c.in-Some.is) (c.live_before.ensures.before live)
