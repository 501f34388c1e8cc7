use Rattle.offset_calls.proofs.Histories.{fresh_law}
use Rattle.offset_calls.proofs.laws.an_empty_space_continues_as_fresh.Goals as goal

pub returns : goal.returns
returns c = fresh_law
