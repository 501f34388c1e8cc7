use Rattle.offset_allocator.proofs.{Common.◌∙◌, Common.sym, Linking.Places.next_below, Linking.Places.next_place, Linking.Places.used_after, Linking.Places.none_after}
use Rattle.offset_allocator.proofs.neighbours.free_after.Goals as goal

pub is_used-requires : goal.is_used-requires
is_used-requires g c = (next_place c.requires.place.4 (c.in-Some.ensures ∙ c.after-link.ensures.cell)).place.below

pub returns-else-not-is_used-clause-free : goal.returns-else-not-is_used-clause-free
returns-else-not-is_used-clause-free g c m last spare p h = used_after h (c.in-Some.ensures ∙ c.after-link.ensures.cell) (sym c.if-not-is_used.ensures.cell)

pub returns-in_default-clause-free : goal.returns-in_default-clause-free
returns-in_default-clause-free g c m last spare p h = none_after h (c.in_default.ensures ∙ c.after-link.ensures.cell)

pub named-requires : goal.named-requires
named-requires g c = rw c.after-link.ensures.cell (next_below c.requires.place.4)
