use Rattle.offset_guarded.proofs.Decided.{answers_decided}
use Rattle.offset_guarded.proofs.Twins.{copy_twin, read_twin}
use Rattle.offset_guarded.proofs.laws.a_state_decides_each_step.Goals as goal

pub returns-clause-each : goal.returns-clause-each
returns-clause-each c = answers_decided

pub returns-clause-copy : goal.returns-clause-copy
returns-clause-copy c = copy_twin

pub returns-clause-read : goal.returns-clause-read
returns-clause-read c = read_twin
