use Rattle.offset_heaps.proofs.Squares.{all_end, ranks_grow, squares_grow, units_end}
use Rattle.offset_heaps.proofs.laws.relocations_end.Goals as goal

pub returns-clause-grows : goal.returns-clause-grows
returns-clause-grows c p q hs ks known goes = squares_grow p q hs ks known goes

pub returns-clause-fuller : goal.returns-clause-fuller
returns-clause-fuller c p q hs ks goes = goes.grants.first.0.1.full

pub returns-clause-none : goal.returns-clause-none
returns-clause-none c p q hs ks known goes none = ranks_grow p q hs ks known goes none

pub returns-clause-ends : goal.returns-clause-ends
returns-clause-ends c = units_end

pub returns-clause-all : goal.returns-clause-all
returns-clause-all c = all_end
