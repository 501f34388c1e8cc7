use Rattle.offset_allocator.proofs.Common.{cases_lt, true≢false, ◌≡◌, ◌⊎◌, ◌+◌, ◌-◌, ◌<◌, ◌≤◌, ◌∙◌, ℕ, true, false, length, inl, inr, refl, sym, ap, subst, arith, Node, View, IsWellFormed, free_start}
use Rattle.offset_allocator.proofs.{Common.units, Common.AdmitsBlocks, Common.range_of, Common.size_of, Common.Resizes, Common.ResizesTo, Freeing.Release, Freeing.at, Freeing.filed, Freeing.room_for}
use Rattle.offset_allocator.proofs.{Freeing.named_live, Linking.Places.at_place, Reading.live_used, Sound.Fields, Sound.AreSound, Sound.shown, Sound.fields_of, Sound.known_sound}
use Rattle.offset_allocator.proofs.AllocatorOf.resize_to.Given.{Over}
use Rattle.offset_allocator.proofs.Resizing.{resized, free_beside, next_some, some_after, resizes_full, resizes_short, resizes_done, resized_units, resized_others, size_there}
use Rattle.offset_allocator.proofs.AllocatorOf.resize_to.Goals as goal
use Rattle.offset_allocator.proofs.AllocatorOf.resize_to.Goals.{After-self, After-units_after-more, After-resize, else-is_none-via-then-is_none+else-not-admits_blocks, else-is_none-via-else-is_none}

-- where the block is, and its size
block : (g : Over) (c : After-self g) → Release (fields_of g.T.Tables.cells g.T.Index.NodeIndex.MAX c.self.inside) c.args.name
block g c = record { sound = c.self.invariant; live = named_live _ _ _ _ c.self.view_is refl (live_used c.args.name c.args.self.now c.requires.live) }

size : (g : Over) (c : After-self g) → c.args.old_size ≡ (at (block g c)).place.block.size
size g c = c.requires.old_size ∙ ap (λ (u : View). size_of c.args.name u) (sym c.self.view_is) ∙ size_there (block g c)

-- the units of the free block after it
more : (g : Over) (c : After-units_after-more g)
    (r : Release (fields_of g.T.Tables.cells g.T.Index.NodeIndex.MAX c.self.inside) c.args.name)
    → c.units_after-more.result ≡ units (free_start (at r).place.after)
more g c r = c.units_after-more.ensures.units _ _ _ _ (at r).held

pub free_after-next-requires : goal.free_after-next-requires
free_after-next-requires g c = record { place = (_, _, _, _, (at (block g (goal.at.free_after-next-requires g c).After-self)).held) }

pub units_after-more-requires-clause-place : goal.units_after-more-requires-clause-place
units_after-more-requires-clause-place g c = (_, _, _, _, (at (block g (goal.at.units_after-more-requires-clause-place g c).After-self)).held)

-- too few units after it
pub returns-then-size-old_size-2-clause-step : goal.returns-then-size-old_size-2-clause-step
returns-then-size-old_size-2-clause-step g c =
    let here = goal.at.returns-then-size-old_size-2-clause-step g c in
    let r = block g here.After-self in
    subst (λ (u : View). ResizesTo c.args.name c.args.size u
    (shown (record (fields_of g.T.Tables.cells g.T.Index.NodeIndex.MAX c.self.inside)
    { accesses = c.units_after-more.new.count })) false) c.self.view_is
    (resizes_short r c.args.size c.units_after-more.new.count (omega (arith, size g here.After-self, more g here.After-units_after-more r, c.if-size-old_size-2.true)))

pub returns-then-size-old_size-2-clause-same : goal.returns-then-size-old_size-2-clause-same
returns-then-size-old_size-2-clause-same g c e = ap (λ (u : View). record u { accesses = c.units_after-more.new.count }) c.self.view_is

pub returns-then-size-old_size-2-clause-others : goal.returns-then-size-old_size-2-clause-others
returns-then-size-old_size-2-clause-others g c y ne = ap (range_of y) (returns-then-size-old_size-2-clause-same g c refl)

-- no block may take those that are given back
pub returns-then-not-admits_blocks-clause-step : goal.returns-then-not-admits_blocks-clause-step
returns-then-not-admits_blocks-clause-step g c =
    let here = goal.at.returns-then-not-admits_blocks-clause-step g c in
    let r = block g here.After-self in
    let none = (next_some r _ c.free_after-next.ensures.free).1 c.if-is_none.ensures in
    let less : c.args.size < (at r).place.block.size =
    omega (arith, size g here.After-self, more g here.After-units_after-more r, ap units none, c.if-size-old_size.false, c.if-size-old_size-2.false) in
    let full : c.self.inside.max_allocs ≤ length (shown (fields_of g.T.Tables.cells g.T.Index.NodeIndex.MAX c.self.inside)).blocks + 1 =
    elim (cases_lt (length (shown (fields_of g.T.Tables.cells g.T.Index.NodeIndex.MAX c.self.inside)).blocks + 1) c.self.inside.max_allocs) [
      | inl l ↦ absurd (true≢false (sym (c.admits_blocks.ensures.1 l) ∙ c.if-not-admits_blocks.true))
      | inr m ↦ omega (arith, m)
    ] in
    subst (λ (u : View). ResizesTo c.args.name c.args.size u (shown (record (fields_of g.T.Tables.cells g.T.Index.NodeIndex.MAX c.self.inside) { accesses = c.units_after-more.new.count })) false) c.self.view_is
    (resizes_full r c.args.size c.units_after-more.new.count less none full)

pub returns-then-not-admits_blocks-clause-same : goal.returns-then-not-admits_blocks-clause-same
returns-then-not-admits_blocks-clause-same g c e = ap (λ (u : View). record u { accesses = c.units_after-more.new.count }) c.self.view_is

pub returns-then-not-admits_blocks-clause-others : goal.returns-then-not-admits_blocks-clause-others
returns-then-not-admits_blocks-clause-others g c y ne = ap (range_of y) (returns-then-not-admits_blocks-clause-same g c refl)

-- it is resized
pub resize-requires-clause-place : goal.resize-requires-clause-place
resize-requires-clause-place g c =
    let here = goal.at.resize-requires-clause-place g c in
    let r = block g here.After-self in (
      _,
      _,
      (at r).held,
      filed r,
      omega (arith, size g here.After-self, more g here.After-units_after-more r, c.if-size-old_size-2.false),
      elim c.else-is_none.branch [
        | else-is_none-via-then-is_none+else-not-admits_blocks w ↦ inr
            (omega (
              arith,
              w.admits_blocks.ensures.0 w.if-not-admits_blocks.false,
              ap length (at r).list_is,
              c.self.invariant.memory,
            ))
        | else-is_none-via-else-is_none w ↦ inl ((next_some r _ c.free_after-next.ensures.free).0 w.if-is_none.ensures)
      ],
    )

pub resize-requires-clause-old_size : goal.resize-requires-clause-old_size
resize-requires-clause-old_size g c =
    let here = goal.at.resize-requires-clause-old_size g c in
    size g here.After-self ∙ sym (ap (λ (v : Node). v.size) (at_place (at (block g here.After-self)).held))

pub overflow_add-self : goal.overflow_add-self
overflow_add-self g c =
    let here = goal.at.overflow_add-self g c in
    omega (arith, room_for (block g here.After-self), size g here.After-self)

pub overflow_sub-self : goal.overflow_sub-self
overflow_sub-self g c =
    let here = goal.at.overflow_sub-self g c in
    let r = block g here.After-self in
    omega (arith, free_beside r, more g here.After-units_after-more r, c.if-size-old_size-2.false)

-- the fields that are left
abbrev after : (g : Over) → After-resize g → ℕ → Fields
after g c k = record (fields_of g.T.Tables.cells g.T.Index.NodeIndex.MAX c.self.inside) {
  cells = (g.T.Tables.cells c.resize.new.store.tables);
  last = c.resize.new.store.last;
  count = c.resize.new.store.spare_count;
  top = c.resize.new.store.top_mask;
  free = c.self.inside.free_total + c.args.old_size - c.args.size;
  accesses = k;
}

room : (g : Over) (c : After-resize g)
    (r : Release (fields_of g.T.Tables.cells g.T.Index.NodeIndex.MAX c.self.inside)
    c.args.name) → (1 ≤ length (free_start (at r).place.after))
    ⊎ AdmitsBlocks 1 (shown (fields_of g.T.Tables.cells g.T.Index.NodeIndex.MAX c.self.inside))
room g c r = elim c.else-is_none.branch [
  | else-is_none-via-then-is_none+else-not-admits_blocks w ↦ inr (w.admits_blocks.ensures.0 w.if-not-admits_blocks.false)
  | else-is_none-via-else-is_none w ↦ inl ((next_some r _ c.free_after-next.ensures.free).0 w.if-is_none.ensures)
]

done : (g : Over) (c : After-resize g)
    (r : Release (fields_of g.T.Tables.cells g.T.Index.NodeIndex.MAX c.self.inside)
    c.args.name) → c.args.old_size ≡ (at r).place.block.size → c.units_after-more.result ≡ units (free_start (at r).place.after) → (k : ℕ)
    → AreSound (after g c k) × Resizes c.args.name c.args.size
    (shown (fields_of g.T.Tables.cells g.T.Index.NodeIndex.MAX c.self.inside)) (shown (after g c k))
done g c r size more k =
    resized r c.args.size (omega (arith, size, more, c.if-size-old_size-2.false)) (room g c r) _ _ _ c.resize.result (c.resize.ensures.place _ _ (at r).held) k _ c.resize.ensures.binned
    (c.resize.ensures.lists _ _ (at r).held) (omega (arith, size, more, free_beside r, c.if-size-old_size-2.false)) (c.resize.ensures.unused _ _ (at r).held)

pub invariant_of-self-2 : goal.invariant_of-self-2
invariant_of-self-2 g c =
    let here = goal.at.invariant_of-self-2 g c in
    let r = block g here.After-self in
    (done g here.After-resize r (size g here.After-self) (more g here.After-units_after-more r) 0).0

pub returns-clause-step : goal.returns-clause-step
returns-clause-step g c =
    let here = goal.at.returns-clause-step g c in
    let new : View = shown (after g here.After-resize c.resize.new.store.accesses) in
    let r = block g here.After-self in
    let e = size g here.After-self in
    let m = more g here.After-units_after-more r in
    subst (λ (u : View). ResizesTo c.args.name c.args.size u new true) c.self.view_is
    (resizes_done r c.args.size new (λ z. absurd (c.if-size-old_size.false (z ∙ sym e))) (omega (arith, e, m, c.if-size-old_size-2.false)) (room g here.After-resize r)
    (done g here.After-resize r e m c.resize.new.store.accesses).1)

-- the views before and after it are well formed
well : (g : Over) (c : After-resize g)
    (r : Release (fields_of g.T.Tables.cells g.T.Index.NodeIndex.MAX c.self.inside)
    c.args.name) → c.args.old_size ≡ (at r).place.block.size → c.units_after-more.result ≡ units (free_start (at r).place.after) → IsWellFormed c.args.self.now
    × IsWellFormed (shown (after g c c.resize.new.store.accesses))
well g c r size more = (
  (known_sound (fields_of g.T.Tables.cells g.T.Index.NodeIndex.MAX c.self.inside) c.self.invariant c.args.self.now c.self.view_is).0,
  (known_sound (after g c c.resize.new.store.accesses) (done g c r size more 0).0 _ refl).0,
)

pub returns-clause-range : goal.returns-clause-range
returns-clause-range g c h =
    let here = goal.at.returns-clause-range g c in
    let r = block g here.After-self in
    let known = well g here.After-resize r (size g here.After-self) (more g here.After-units_after-more r) in
    resized_units c.args.name c.args.size c.args.self.now (shown (after g here.After-resize c.resize.new.store.accesses)) known.0 known.1 true (returns-clause-step g c) h

pub returns-clause-others : goal.returns-clause-others
returns-clause-others g c =
    let here = goal.at.returns-clause-others g c in
    let r = block g here.After-self in
    let known = well g here.After-resize r (size g here.After-self) (more g here.After-units_after-more r) in
    resized_others c.args.name c.args.size c.args.self.now (shown (after g here.After-resize c.resize.new.store.accesses)) known.0 known.1 (returns-clause-step g c)

pub returns-clause-accesses_more : goal.returns-clause-accesses_more
returns-clause-accesses_more g c done l =
    let here = goal.at.returns-clause-accesses_more g c in
    let r = block g here.After-self in
    let some = some_after r _ c.free_after-next.ensures.free (omega (arith, more g here.After-units_after-more r, l, c.if-size-old_size-2.false)) in
    let counted : c.self.inside.store.accesses ≡ c.args.self.now.accesses = ap (λ (u : View). u.accesses) c.self.view_is in
    omega (arith, counted, c.free_after-next.ensures.accesses.0, c.units_after-more.ensures.accesses.0, c.resize.ensures.accesses_more some)

pub overflow_add-old_size : goal.overflow_add-old_size
overflow_add-old_size g c =
    let here = goal.at.overflow_add-old_size g c in
    let r = block g here.After-self in
    omega (arith, room_for r, free_beside r, size g here.After-self, more g here.After-units_after-more r)
