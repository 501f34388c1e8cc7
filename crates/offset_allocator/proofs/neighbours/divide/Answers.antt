use Rattle.offset_allocator.proofs.Common.{◌≡◌, ◌∙◌, ◌+◌, ◌-◌, ℕ, inl, inr, length, length-append, ◌++◌, ◌∷◌, take, used_block, List, refl, ap, arith, eq-zero-or-pos, sym, Node, Block, free_part}
use Rattle.offset_allocator.proofs.Common.{push_all, IsBinned, IsUnlisted, bins_in}
use Rattle.offset_allocator.proofs.{Linking.Parts.padded_unlisted, Linking.Parts.pushed_parts, Linking.Parts.unlisted_part, Linking.Places.at_place, Tallies.part_sums, Tallies.units-append}
use Rattle.offset_allocator.proofs.Linking.Names.{more_taken, names-append, names-length, part_length}
use Rattle.offset_allocator.specs.Names.{names_of}
use Rattle.offset_allocator.proofs.neighbours.divide.Goals as goal
use Rattle.offset_allocator.proofs.neighbours.divide.{Goals.After-set_used, Given.Over}

pub split_padding-padding_name-requires-clause-place : goal.split_padding-padding_name-requires-clause-place
split_padding-padding_name-requires-clause-place g c = (_, _, c.requires.place.2, c.requires.place.3, λ l. c.requires.place.4)

pub set_used-requires : goal.set_used-requires
set_used-requires g c = (c.split_padding-padding_name.ensures.place _ _ c.requires.place.2).below

-- the bins once the block is used
marked : (g : Over) (c : After-set_used g) → IsBinned g.T.Index.NodeIndex.MAX (g.T.Tables.cells c.set_used.new.tables).bins c.split_padding-padding_name.new.store.top_mask
    × (bins_in g.T.Index.NodeIndex.MAX (g.T.Tables.cells c.set_used.new.tables).bins ≡ push_all (free_part c.split_padding-padding_name.result c.args.parts.padding)
    (bins_in g.T.Index.NodeIndex.MAX (g.T.Tables.cells c.args.store.now.tables).bins))
marked g c =
    let front = c.split_padding-padding_name.ensures in
    let fresh : IsUnlisted c.args.name (bins_in g.T.Index.NodeIndex.MAX (g.T.Tables.cells c.split_padding-padding_name.new.store.tables).bins) =
    rw front.lists (padded_unlisted c.requires.place.1.before c.split_padding-padding_name.result c.args.parts.padding _ c.requires.binned.linked.lists_len
    (front.place _ _ c.requires.place.2) c.requires.unlisted) in
    let b = c.set_used.ensures.bins _ fresh front.binned in
    (b.0, b.1 ∙ front.lists)

pub split_remainder-remainder_name-requires-clause-binned : goal.split_remainder-remainder_name-requires-clause-binned
split_remainder-remainder_name-requires-clause-binned g c = (marked g (goal.at.split_remainder-remainder_name-requires-clause-binned g c).After-set_used).0

-- how many blocks there are with the padding
with_padding : (x n : ℕ) (fs cs : List Block) (b d : Block) → length ((fs ++ free_part x n) ++ d ∷ cs) ≡ length (fs ++ b ∷ cs) + length (free_part x n)
with_padding x n fs cs b d = omega (arith, length-append (fs ++ free_part x n) (d ∷ cs), length-append fs (free_part x n), length-append fs (b ∷ cs))

pub split_remainder-remainder_name-requires-clause-place : goal.split_remainder-remainder_name-requires-clause-place
split_remainder-remainder_name-requires-clause-place g c =
    let r = c.requires.place in (
      _,
      _,
      c.set_used.ensures.place _ _ _ _ (c.split_padding-padding_name.ensures.place _ _ r.2),
      rw (marked g (goal.at.split_remainder-remainder_name-requires-clause-place g c).After-set_used).1
          (unlisted_part r.1.before r.1.after r.1.block _ c.split_padding-padding_name.result c.args.parts.padding _ refl c.requires.binned.linked.lists_len r.3),
      λ l.
          let x = c.split_padding-padding_name.result in
          let n = c.args.parts.padding in
          let many = with_padding x n r.1.before r.1.after r.1.block (used_block r.1.block.name (r.1.block.size - n)) in
          elim (eq-zero-or-pos n) [
            | inl z ↦ omega (arith, many, r.4, (part_length x n).0 z)
            | inr s ↦ omega (arith, many, r.5 s, (part_length x n).1)
          ],
    )

pub split_remainder-remainder_name-requires-clause-whole : goal.split_remainder-remainder_name-requires-clause-whole
split_remainder-remainder_name-requires-clause-whole g c =
    let h = c.requires.place.2 in
    let now = at_place (c.set_used.ensures.place _ _ _ _ (c.split_padding-padding_name.ensures.place _ _ h)) in
    omega (arith, c.requires.whole, ap (λ (v : Node). v.size) (at_place h), ap (λ (v : Node). v.size) now)

pub returns-clause-place : goal.returns-clause-place
returns-clause-place g c m p h = c.split_remainder-remainder_name.ensures.place _ _ (c.set_used.ensures.place _ _ _ _ (c.split_padding-padding_name.ensures.place _ _ h))

pub split_remainder-remainder_name-requires-clause-offset : goal.split_remainder-remainder_name-requires-clause-offset
split_remainder-remainder_name-requires-clause-offset g c =
    let h = c.requires.place.2 in
    let now = at_place (c.set_used.ensures.place _ _ _ _ (c.split_padding-padding_name.ensures.place _ _ h)) in
    omega (
      arith,
      c.requires.start,
      ap (λ (v : Node). v.offset) (at_place h),
      ap (λ (v : Node). v.offset) now,
      units-append c.requires.place.1.before (free_part c.split_padding-padding_name.result c.args.parts.padding),
      (part_sums c.split_padding-padding_name.result c.args.parts.padding).1,
    )

pub returns-clause-lists : goal.returns-clause-lists
returns-clause-lists g c =
    let rest : List Block = free_part c.split_remainder-remainder_name.result c.args.parts.remainder in
    c.split_remainder-remainder_name.ensures.lists ∙ ap (push_all rest) (marked g (goal.at.returns-clause-lists g c).After-set_used).1
    ∙ sym (pushed_parts c.split_padding-padding_name.result c.args.parts.padding c.args.name c.args.parts.size rest (bins_in g.T.Index.NodeIndex.MAX (g.T.Tables.cells c.args.store.now.tables).bins))

pub returns-clause-unused : goal.returns-clause-unused
returns-clause-unused g c m p h =
    let x = c.split_padding-padding_name.result in
    let n = c.args.parts.padding in
    let rest : List Block = free_part c.split_remainder-remainder_name.result c.args.parts.remainder in
    let marked = c.set_used.ensures.place _ _ _ _ (c.split_padding-padding_name.ensures.place _ _ h) in
    let many = with_padding x n p.before p.after p.block (used_block p.block.name (p.block.size - n)) ∙ ap (λ k. length (p.before ++ p.block ∷ p.after) + k) (sym (names-length (free_part x n))) in
    let more = rw (ap (take c.split_padding-padding_name.new.store.spare_count) c.set_used.ensures.spare, many) at (c.split_remainder-remainder_name.ensures.unused _ _ marked) in
    rw (names-append (free_part x n) rest)
    (more_taken (names_of (free_part x n)) (names_of rest) _ _ _ _ (c.split_padding-padding_name.ensures.unused _ _ h) more)
