use Rattle.offset_calls.proofs.Furthest.{compacted_furthest, run_furthest}
use Rattle.offset_calls.proofs.laws.whole_steps_go_furthest.Goals as goal

pub returns : goal.returns
returns c = record { run = run_furthest; compact_by = compacted_furthest }
