use Rattle.offset_calls.proofs.Decided.{runs_decided}
use Rattle.offset_calls.proofs.laws.a_copy_continues_alike.Goals as goal

pub returns : goal.returns
returns c v v' w w' handles kept kept' cs rs rs' = runs_decided cs v v' w w' handles kept kept' rs rs'
