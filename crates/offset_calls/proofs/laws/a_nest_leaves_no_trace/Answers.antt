use Rattle.offset_calls.proofs.Histories.{nest_law}
use Rattle.offset_calls.proofs.laws.a_nest_leaves_no_trace.Goals as goal

pub returns : goal.returns
returns c = nest_law
