use Rattle.offset_allocator.proofs.{Common.refl, Common.sym, Common.ap₂, Common.◌∙◌, Common.◌++◌, Common.ℕ, Common.List, Common.append-nil, Common.ap, Common.arith, Common.Node}
use Rattle.offset_allocator.proofs.{Linking.Places.at_place, Linking.Places.previous_place, Linking.Places.kept_before, Linking.Places.free_before, Linking.Places.before_fits}
use Rattle.offset_allocator.proofs.{Linking.Places.kept_place, Filing.Filed.previous_filed, Linking.Names.kept_unused, Linking.Names.name_before}
use Rattle.offset_allocator.proofs.neighbours.with_before.Goals as goal

pub size-more-requires : goal.size-more-requires
size-more-requires g c = (previous_place c.requires.place.2 c.in-Some.ensures.free.0).place.below

pub overflow_add-whole : goal.overflow_add-whole
overflow_add-whole g c = omega (arith, c.size-more.ensures.cell, c.requires.size, before_fits c.requires.place.2 c.in-Some.ensures.free.0)

pub remove-requires-clause-listed : goal.remove-requires-clause-listed
remove-requires-clause-listed g c = rw c.size-more.ensures.cell (previous_filed c.requires.place.2 _ c.requires.place.3 c.in-Some.ensures.free.0 c.in-Some.ensures.free.1)

pub returns-in-Some-clause-place : goal.returns-in-Some-clause-place
returns-in-Some-clause-place g c m p h = c.coalesce_before.ensures.place _ p (kept_place c.remove.ensures.chain h)

pub returns-in-Some-clause-lists : goal.returns-in-Some-clause-lists
returns-in-Some-clause-lists g c m p h =
    rw (c.coalesce_before.ensures.bins.0, c.remove.ensures.lists, c.size-more.ensures.cell) (sym ((free_before h c.in-Some.ensures.free.0 c.in-Some.ensures.free.1).1 _))

pub returns-in-Some-clause-size : goal.returns-in-Some-clause-size
returns-in-Some-clause-size g c =
    let h = c.requires.place.2 in
    let left = c.coalesce_before.ensures.place _ _ (kept_place c.remove.ensures.chain h) in
    omega (
      arith,
      c.size-more.ensures.cell,
      c.requires.size,
      (free_before h c.in-Some.ensures.free.0 c.in-Some.ensures.free.1).0,
      ap (λ (v : Node). v.size) (at_place left),
      ap (λ (v : Node). v.size) (at_place h),
    )

pub returns-clause-place : goal.returns-clause-place
returns-clause-place g c m p h = kept_before h (c.in_default.ensures.free _ _ _ _ h)

pub returns-clause-lists : goal.returns-clause-lists
returns-clause-lists g c m p h = rw (c.in_default.ensures.free _ _ _ _ h) refl

pub returns-in-Some-clause-unused : goal.returns-in-Some-clause-unused
returns-in-Some-clause-unused g c m p h =
    c.coalesce_before.ensures.unused
    ∙ ap₂ (λ (u xs : List ℕ). u ++ xs) (kept_unused c.remove.ensures.chain) (sym (name_before h c.in-Some.ensures.free.0 c.in-Some.ensures.free.1))

pub returns-clause-unused : goal.returns-clause-unused
returns-clause-unused g c m p h = rw (c.in_default.ensures.free _ _ _ _ h) (sym (append-nil _))
