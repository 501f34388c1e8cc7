use Rattle.offset_script.proofs.Commute.{commute_space, commute_next}
use Rattle.offset_script.proofs.laws.releases_commute.Goals as goal

pub returns : goal.returns
returns c = record { space = commute_space; next = commute_next }
