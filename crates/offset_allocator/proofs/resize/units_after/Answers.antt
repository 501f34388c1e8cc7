use Rattle.offset_allocator.proofs.{Common.sym, Common.ap, Common.◌∙◌, Common.units, Linking.Places.next_place, Linking.Places.free_after}
use Rattle.offset_allocator.proofs.resize.units_after.Goals as goal

pub size-requires : goal.size-requires
size-requires g c = (next_place c.requires.place.4 (rw c.in-Some.is at c.requires.next).0).place.below

pub returns-in-None-clause-units : goal.returns-in-None-clause-units
returns-in-None-clause-units g c m last spare p h = sym (ap units ((rw c.in-None.is at c.requires.next) _ _ _ _ h))

pub returns-in-Some-clause-units : goal.returns-in-Some-clause-units
returns-in-Some-clause-units g c m last spare p h = let next = rw c.in-Some.is at c.requires.next in c.size.ensures.cell ∙ sym (free_after h next.0 next.1).0
