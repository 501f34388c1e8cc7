use Rattle.offset_heaps.proofs.DecidedCalls.{copies_are_twins, same_are_twins, taken_decided}
use Rattle.offset_heaps.proofs.laws.a_copy_continues_alike.Goals as goal

pub returns-clause-copy : goal.returns-clause-copy
returns-clause-copy c = copies_are_twins

pub returns-clause-read : goal.returns-clause-read
returns-clause-read c = same_are_twins

pub returns-clause-calls : goal.returns-clause-calls
returns-clause-calls c = taken_decided
