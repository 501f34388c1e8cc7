use Rattle.offset_calls.proofs.Tickets.{emptied}
use Rattle.offset_calls.proofs.guarded_playing.reset.Goals as goal

pub returns : goal.returns
returns g c ts is = emptied _ _ ts is c.reset.ensures.step c.reset.ensures.gone c.reset.ensures.serials
