use Rattle.offset_script.proofs.Held.{held_granted, may_be_kept}
use Rattle.offset_script.proofs.laws.a_grant_may_be_kept.Goals as goal

pub returns : goal.returns
returns c = record { held = held_granted; granted = may_be_kept }
