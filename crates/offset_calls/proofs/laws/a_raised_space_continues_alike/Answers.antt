use Rattle.offset_calls.proofs.Raised.{runs_raised}
use Rattle.offset_calls.proofs.laws.a_raised_space_continues_alike.Goals as goal

pub returns : goal.returns
returns c limit v v' w w' handles kept kept' cs rs rs' = runs_raised limit cs v v' w w' handles kept kept' rs rs'
