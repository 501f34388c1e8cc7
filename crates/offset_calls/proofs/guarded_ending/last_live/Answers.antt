use Rattle.offset_calls.proofs.{Common.ap, Common.reply_view, EndServed.last_serves}
use Rattle.offset_calls.proofs.guarded_ending.last_live.Goals as goal

pub returns : goal.returns
returns g c = last_serves c.args.player.now.space c.args.player.now.tickets.items c.requires.all_tickets c.requires.kept c.last_live.result _ (ap reply_view c.numbered.ensures) c.last_live.ensures
