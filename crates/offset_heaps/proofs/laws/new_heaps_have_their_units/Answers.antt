use Rattle.offset_heaps.proofs.Foretold.{larger_units, usual_units}
use Rattle.offset_heaps.proofs.laws.new_heaps_have_their_units.Goals as goal

pub returns-clause-usual : goal.returns-clause-usual
returns-clause-usual c = usual_units

pub returns-clause-larger : goal.returns-clause-larger
returns-clause-larger c = larger_units
