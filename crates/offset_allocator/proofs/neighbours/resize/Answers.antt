use Rattle.offset_allocator.proofs.Common.{inl, inr, ◌∷◌, ◌++◌, length, length-append, without_start, Block, ◌≡◌, ◌∙◌, ℕ, ◌+◌, ◌-◌, ◌<◌, ap, arith, Node, Place, units, free_start, HasPlace}
use Rattle.offset_allocator.proofs.{Filing.Filed.unlisted_after, Linking.Names.none_in, Linking.Names.part_taken, Linking.Places.at_place, Views.ViewApart.start_parts}
use Rattle.offset_allocator.proofs.neighbours.resize.Goals as goal
use Rattle.offset_allocator.proofs.neighbours.resize.{Goals.After-with_after-whole, Given.Over}

-- the size of the whole block
whole : (g : Over) (c : After-with_after-whole g) (p : Place) {m : ℕ} → HasPlace (g.T.Tables.cells c.args.store.now.tables).chain m c.args.store.now.last c.args.store.now.spare_count c.args.name p
    → c.with_after-whole.result ≡ p.block.size + units (free_start p.after)
whole g c p h = c.with_after-whole.ensures.size ∙ ap (λ (v : Node). v.size) (at_place (c.with_after-whole.ensures.place _ _ h))

-- how many blocks there are without the free one
both_counted : (p : Place) (d : Block) → length (p.before ++ d ∷ without_start p.after) + length (free_start p.after) ≡ length (p.before ++ p.block ∷ p.after)
both_counted p d = omega (
  arith,
  length-append p.before (d ∷ without_start p.after),
  length-append p.before (p.block ∷ p.after),
  ap length (start_parts p.after),
  length-append (free_start p.after) (without_start p.after),
)

pub offset-offset-requires : goal.offset-offset-requires
offset-offset-requires g c = (c.with_after-whole.ensures.place _ _ c.requires.place.2).below

pub overflow_sub-whole : goal.overflow_sub-whole
overflow_sub-whole g c = omega (arith, whole g (goal.at.overflow_sub-whole g c).After-with_after-whole _ c.requires.place.2, c.requires.place.4)

pub split_remainder-requires-clause-place : goal.split_remainder-requires-clause-place
split_remainder-requires-clause-place g c =
    let r = c.requires.place in
    let many = both_counted r.1 (record r.1.block { size = r.1.block.size + units (free_start r.1.after) }) in (
      _,
      _,
      c.with_after-whole.ensures.place _ _ r.2,
      rw (c.with_after-whole.ensures.lists _ _ r.2) (unlisted_after r.2 _ r.3 c.requires.binned.linked.lists_len _),
      λ l. elim r.5 [ inl s ↦ omega (arith, s, many, r.2.chain.full, r.2.chain.within) | inr s ↦ omega (arith, s, many) ],
    )

pub split_remainder-requires-clause-whole : goal.split_remainder-requires-clause-whole
split_remainder-requires-clause-whole g c = grind (arith, whole)

pub returns-clause-place : goal.returns-clause-place
returns-clause-place g c m p h = rw (← whole g (goal.at.returns-clause-place g c).After-with_after-whole p h) (c.split_remainder.ensures.place _ _ (c.with_after-whole.ensures.place _ _ h))

pub returns-clause-lists : goal.returns-clause-lists
returns-clause-lists g c m p h = grind (arith, whole)

pub returns-clause-accesses_less : goal.returns-clause-accesses_less
returns-clause-accesses_less g c l =
    let h = c.requires.place.2 in
    let w = whole g (goal.at.returns-clause-accesses_less g c).After-with_after-whole _ h in
    let some : 0 < c.with_after-whole.result - c.args.size = omega (arith, l, w, c.requires.old_size, ap (λ (v : Node). v.size) (at_place h)) in
    omega (arith, c.split_remainder.ensures.accesses_min some, c.offset-offset.ensures.accesses, c.with_after-whole.ensures.accesses.0)

pub returns-clause-unused : goal.returns-clause-unused
returns-clause-unused g c m p h =
    let many = both_counted p (record p.block { size = p.block.size + units (free_start p.after) }) in
    let taken = rw (whole g (goal.at.returns-clause-unused g c).After-with_after-whole p h, c.with_after-whole.ensures.unused _ _ h) at
    (c.split_remainder.ensures.unused _ _ (c.with_after-whole.ensures.place _ _ h)) in
    part_taken _ _ c.split_remainder.result _ _ _ (λ e. omega (arith, many, ap length (none_in _ (free_start p.after) e))) taken
