use Rattle.offset_heaps.proofs.Doubling.{all_alike, first_of_all, next_doubles, usual_of_some}
use Rattle.offset_heaps.proofs.laws.usual_heaps_double.Goals as goal

pub returns-clause-first : goal.returns-clause-first
returns-clause-first c = first_of_all

pub returns-clause-next : goal.returns-clause-next
returns-clause-next c = next_doubles

pub returns-clause-alike : goal.returns-clause-alike
returns-clause-alike c = all_alike

pub returns-clause-usual : goal.returns-clause-usual
returns-clause-usual c = usual_of_some
