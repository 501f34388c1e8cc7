use Rattle.offset_calls.proofs.RaisedTickets.{guarded_raised, same_raised}
use Rattle.offset_calls.proofs.laws.a_raised_guard_continues_alike.Goals as goal

pub returns : goal.returns
returns c = record { raised = same_raised; alike = guarded_raised }
