use Rattle.offset_script.proofs.Totals.{full_refuses, full_refuses_aligned, full_report}
use Rattle.offset_script.proofs.laws.a_full_space_refuses.Goals as goal

pub returns : goal.returns
returns c = record { grants = full_refuses; aligned = full_refuses_aligned; report = full_report }
