use Rattle.offset_allocator.proofs.{Common.refl, Common.sym, Common.ap₂, Common.◌∙◌, Common.◌++◌, Common.ℕ, Common.List, Common.append-nil, Common.ap, Common.arith, Common.Node}
use Rattle.offset_allocator.proofs.{Linking.Places.at_place, Linking.Places.next_place, Linking.Places.kept_after, Linking.Places.free_after, Linking.Places.after_fits, Linking.Places.kept_place}
use Rattle.offset_allocator.proofs.{Filing.Filed.next_filed, Linking.Names.kept_unused, Linking.Names.name_after}
use Rattle.offset_allocator.proofs.neighbours.with_after.Goals as goal

pub returns-in-None-clause-place : goal.returns-in-None-clause-place
returns-in-None-clause-place g c m p h = kept_after h ((rw c.in-None.is at c.requires.next) _ _ _ _ h)

pub returns-in-None-clause-lists : goal.returns-in-None-clause-lists
returns-in-None-clause-lists g c m p h = rw ((rw c.in-None.is at c.requires.next) _ _ _ _ h) refl

pub size-more-requires : goal.size-more-requires
size-more-requires g c = (next_place c.requires.place.2 (rw c.in-Some.is at c.requires.next).0).place.below

pub overflow_add-whole : goal.overflow_add-whole
overflow_add-whole g c = omega (arith, c.size-more.ensures.cell, c.requires.size, after_fits c.requires.place.2 (rw c.in-Some.is at c.requires.next).0)

pub remove-requires-clause-listed : goal.remove-requires-clause-listed
remove-requires-clause-listed g c =
    let next = rw c.in-Some.is at c.requires.next in
    rw c.size-more.ensures.cell (next_filed c.requires.place.2 _ c.requires.place.3 next.0 next.1)

pub returns-in-Some-clause-place : goal.returns-in-Some-clause-place
returns-in-Some-clause-place g c m p h = c.coalesce_after.ensures.place _ _ (kept_place c.remove.ensures.chain h)

pub returns-in-Some-clause-lists : goal.returns-in-Some-clause-lists
returns-in-Some-clause-lists g c m p h =
    let next = rw c.in-Some.is at c.requires.next in
    rw (c.coalesce_after.ensures.bins.0, c.remove.ensures.lists, c.size-more.ensures.cell) (sym ((free_after h next.0 next.1).1 _))

pub returns-in-Some-clause-size : goal.returns-in-Some-clause-size
returns-in-Some-clause-size g c =
    let h = c.requires.place.2 in
    let next = rw c.in-Some.is at c.requires.next in
    let left = c.coalesce_after.ensures.place _ _ (kept_place c.remove.ensures.chain h) in
    omega (arith, c.size-more.ensures.cell, c.requires.size, (free_after h next.0 next.1).0, ap (λ (v : Node). v.size) (at_place left), ap (λ (v : Node). v.size) (at_place h))

pub returns-in-Some-clause-accesses_min : goal.returns-in-Some-clause-accesses_min
returns-in-Some-clause-accesses_min g c some = omega (arith, c.size-more.ensures.accesses, c.remove.ensures.accesses.0, c.coalesce_after.ensures.accesses.0)

pub returns-in-Some-clause-unused : goal.returns-in-Some-clause-unused
returns-in-Some-clause-unused g c m p h =
    let next = rw c.in-Some.is at c.requires.next in
    c.coalesce_after.ensures.unused ∙ ap₂ (λ (u xs : List ℕ). u ++ xs) (kept_unused c.remove.ensures.chain) (sym (name_after h next.0 next.1))

pub returns-in-None-clause-unused : goal.returns-in-None-clause-unused
returns-in-None-clause-unused g c m p h = rw ((rw c.in-None.is at c.requires.next) _ _ _ _ h) (sym (append-nil _))
