use Rattle.offset_calls.proofs.{Common.ap, Common.reply_view, EndServed.first_serves}
use Rattle.offset_calls.proofs.guarded_ending.first_live.Goals as goal

pub returns : goal.returns
returns g c = first_serves c.args.player.now.space c.args.player.now.tickets.items c.requires.all_tickets c.requires.kept c.first_live.result _ (ap reply_view c.numbered.ensures) c.first_live.ensures
