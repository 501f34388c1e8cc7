use Rattle.offset_script.proofs.Nests.{nest_law}
use Rattle.offset_script.proofs.laws.a_nest_leaves_no_trace.Goals as goal

pub returns : goal.returns
returns c = nest_law
