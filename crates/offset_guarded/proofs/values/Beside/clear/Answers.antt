use Rattle.offset_guarded.proofs.Entries.{none_kept}
use Rattle.offset_guarded.proofs.values.Beside.clear.Goals as goal

pub invariant_of-self : goal.invariant_of-self
invariant_of-self g c = rw c.empty.ensures (none_kept _)
