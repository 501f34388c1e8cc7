use Rattle.offset_calls.proofs.Undone.{state_law, live_law, free_law}
use Rattle.offset_calls.proofs.laws.retract_undoes_extend.Goals as goal

pub returns : goal.returns
returns c = record { state = state_law; live = live_law; free = free_law }
