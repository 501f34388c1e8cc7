use Rattle.offset_calls.proofs.DecidedTickets.{guarded_decided}
use Rattle.offset_calls.proofs.laws.a_guarded_copy_continues_alike.Goals as goal

pub returns : goal.returns
returns c = guarded_decided
