use Rattle.offset_allocator.proofs.{Common.◌∙◌, Common.sym, Linking.Places.previous_below, Linking.Places.previous_place, Linking.Places.used_before, Linking.Places.none_before}
use Rattle.offset_allocator.proofs.neighbours.free_before.Goals as goal

pub is_used-requires : goal.is_used-requires
is_used-requires g c = (previous_place c.requires.place.4 (c.in-Some.ensures ∙ c.before-link.ensures.cell)).place.below

pub returns-else-not-is_used-clause-free : goal.returns-else-not-is_used-clause-free
returns-else-not-is_used-clause-free g c m last spare p h = used_before h (c.in-Some.ensures ∙ c.before-link.ensures.cell) (sym c.if-not-is_used.ensures.cell)

pub returns-in_default-clause-free : goal.returns-in_default-clause-free
returns-in_default-clause-free g c m last spare p h = none_before h (c.in_default.ensures ∙ c.before-link.ensures.cell)

pub named-requires : goal.named-requires
named-requires g c = rw c.before-link.ensures.cell (previous_below c.requires.place.4)
