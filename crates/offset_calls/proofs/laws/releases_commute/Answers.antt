use Rattle.offset_calls.proofs.Rows.{rows_space, rows_next}
use Rattle.offset_calls.proofs.laws.releases_commute.Goals as goal

pub returns : goal.returns
returns c = record { space = rows_space; next = rows_next }
