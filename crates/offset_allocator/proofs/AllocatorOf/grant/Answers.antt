use Rattle.offset_allocator.proofs.{Sound.shown, Sound.AreSound, Sound.Fields, Sound.fields_of, Linking.Places.at_place, Linking.Places.kept_place, Linking.Names.kept_unused, Tallies.one-same}
use Rattle.offset_allocator.proofs.{Filing.Uses.removed_unlisted, Common.length, Common.◌≢◌, Common.[], Common.◌∷◌, Common.Splits}
use Rattle.offset_allocator.proofs.Common.{◌≡◌, ◌+◌, ◌-◌, ◌≤◌, ◌<◌, ◌^◌, ◌∙◌, ℕ, ap, arith, refl, subst, sym, up, Node, View, padding_to, IsFoundFrom, Some, AdmitsBlocks, blocks_needed, units, bin_at}
use Rattle.offset_allocator.proofs.Granting.{Call, got, held, unlisted, padding_fits, units_free, granted}
use Rattle.offset_allocator.specs.Requests.{NewestHolds}
use Rattle.offset_allocator.proofs.AllocatorOf.grant.Goals as goal
use Rattle.offset_allocator.proofs.AllocatorOf.grant.{Goals.After-pop-name, Goals.After-size-whole, Goals.After-divide, Given.Over}

-- what the contract asks of the view, said of the fields
call : (g : Over) (c : After-pop-name g)
    → Call (fields_of g.T.Tables.cells g.T.Index.NodeIndex.MAX c.self.inside) c.args.class c.pop-name.result
call g c = record {
  sound = c.self.invariant;
  classed = c.requires.classed;
  older = _;
  newest = c.pop-name.ensures.first;
}

-- the block holds the padding and the units
holding : (g : Over) (c : After-pop-name g)
    → padding_to c.args.align (units (got (call g c)).place.before) + c.args.size ≤ (got (call g c)).place.block.size
holding g c =
    let p = call g c in
    subst (NewestHolds c.args.class c.args.size c.args.align)
    (sym c.self.view_is) c.requires.holds
    (got p).place p.older (got p).list_is (p.newest ∙ ap (λ y. y ∷ p.older) (sym (got p).name))

two : (align o : ℕ) → 1 ≤ padding_to align o → 2 ≤ blocks_needed align
two align o l = omega arith

pub pop-name-requires-clause-some : goal.pop-name-requires-clause-some
pop-name-requires-clause-some g c =
    subst (λ (u : View). bin_at u.bins c.args.class ≢ [])
    (sym c.self.view_is) c.requires.filled

pub offset-offset-requires : goal.offset-offset-requires
offset-offset-requires g c = (kept_place c.pop-name.ensures.chain (held (call g (goal.at.offset-offset-requires g c).After-pop-name) refl)).below

pub size-whole-requires : goal.size-whole-requires
size-whole-requires g c = (kept_place c.pop-name.ensures.chain (held (call g (goal.at.size-whole-requires g c).After-pop-name) refl)).below

fits : (g : Over) (c : After-size-whole g)
    (p : Call (fields_of g.T.Tables.cells g.T.Index.NodeIndex.MAX c.self.inside) c.args.class
    c.pop-name.result)
    → padding_to c.args.align (units (got p).place.before) + c.args.size ≤ (got p).place.block.size
    → padding_to c.args.align c.offset-offset.result + c.args.size ≤ c.size-whole.result
fits g c p h = rw (c.offset-offset.ensures.cell, c.size-whole.ensures.cell, at_place (kept_place c.pop-name.ensures.chain (held p refl))) h

pub overflow_sub-parts : goal.overflow_sub-parts
overflow_sub-parts g c = let at = goal.at.overflow_sub-parts g c in fits g at.After-size-whole (call g at.After-pop-name) (holding g at.After-pop-name)

pub divide-requires-clause-place : goal.divide-requires-clause-place
divide-requires-clause-place g c =
    let p = call g (goal.at.divide-requires-clause-place g c).After-pop-name in
    let enough = rw (← c.self.view_is) at c.requires.enough in
    let all = ap length (got p).list_is in (
      _,
      _,
      kept_place c.pop-name.ensures.chain (held p refl),
      rw c.pop-name.ensures.lists (unlisted p),
      omega (arith, enough, all, c.self.invariant.memory, c.requires.alignment),
      λ l. omega (arith, enough, all, c.self.invariant.memory, two c.args.align c.offset-offset.result (omega (arith, l))),
    )

pub divide-requires-clause-whole : goal.divide-requires-clause-whole
divide-requires-clause-whole g c = let at = goal.at.divide-requires-clause-whole g c in
    omega (arith, c.size-whole.ensures.cell, fits g at.After-size-whole (call g at.After-pop-name) (holding g at.After-pop-name))

pub divide-requires-clause-unlisted : goal.divide-requires-clause-unlisted
divide-requires-clause-unlisted g c =
    let p = call g (goal.at.divide-requires-clause-unlisted g c).After-pop-name in
    rw c.pop-name.ensures.lists (removed_unlisted p.sound.bins.linked c.args.class p.classed c.pop-name.result (rw p.newest (omega (arith, one-same c.pop-name.result))))

pub overflow_sub-self : goal.overflow_sub-self
overflow_sub-self g c = let at = goal.at.overflow_sub-self g c in units_free (call g at.After-pop-name) c.args.size (padding_to c.args.align) (holding g at.After-pop-name)

pub overflow_add-start : goal.overflow_add-start
overflow_add-start g c =
    let at = goal.at.overflow_add-start g c in
    let p = call g at.After-pop-name in
    let small : c.offset-offset.result + padding_to c.args.align c.offset-offset.result < 2 ^ 32 =
    rw (c.offset-offset.ensures.cell, at_place (kept_place c.pop-name.ensures.chain (held p refl)))
    (padding_fits p c.args.size (padding_to c.args.align) (holding g at.After-pop-name)) in
    omega (arith, small)

-- the fields that are left
abbrev left : (g : Over) → After-divide g → Fields
left g c = record (fields_of g.T.Tables.cells g.T.Index.NodeIndex.MAX c.self.inside) {
  cells = (g.T.Tables.cells c.divide.new.store.tables);
  last = c.divide.new.store.last;
  count = c.divide.new.store.spare_count;
  top = c.divide.new.store.top_mask;
  free = c.self.inside.free_total - c.args.size;
  accesses = c.divide.new.store.accesses;
}

-- they are sound, and what was split
done : (g : Over) (c : After-divide g)
    (p : Call (fields_of g.T.Tables.cells g.T.Index.NodeIndex.MAX c.self.inside) c.args.class
    c.pop-name.result)
    → padding_to c.args.align (units (got p).place.before) + c.args.size ≤ (got p).place.block.size → (k : ℕ) (f : Fields)
    → f ≡ record (fields_of g.T.Tables.cells g.T.Index.NodeIndex.MAX c.self.inside) {
      cells = (g.T.Tables.cells c.divide.new.store.tables);
      last = c.divide.new.store.last;
      count = c.divide.new.store.spare_count;
      top = c.divide.new.store.top_mask;
      free = c.self.inside.free_total - c.args.size;
      accesses = k;
    }
    → AreSound f
    × ((needed : ℕ) → IsFoundFrom (up needed)
    (shown (fields_of g.T.Tables.cells g.T.Index.NodeIndex.MAX c.self.inside)).bins (Some c.args.class)
    → Splits needed c.args.size (padding_to c.args.align)
    (shown (fields_of g.T.Tables.cells g.T.Index.NodeIndex.MAX c.self.inside)) (shown f)
    (record { name = c.pop-name.result; offset = c.offset-offset.result + padding_to c.args.align c.offset-offset.result }))
done g c p holds k f e =
    let h = kept_place c.pop-name.ensures.chain (held p refl) in
    let at = at_place h in
    let oe = c.offset-offset.ensures.cell ∙ ap (λ (v : Node). v.offset) at in
    let we = c.size-whole.ensures.cell ∙ ap (λ (v : Node). v.size) at in
    let place = c.divide.ensures.place _ _ h in
    let room = subst (AdmitsBlocks (blocks_needed c.args.align))
    (sym c.self.view_is) c.requires.enough in
    rw (e, oe) (granted p c.args.size (padding_to c.args.align) holds (blocks_needed c.args.align) room (omega (arith, c.requires.alignment))
    (omega (arith, c.requires.alignment, two c.args.align (units (got p).place.before))) _ _ _ _ _ (rw (oe, we) at place) c.divide.ensures.binned (rw (oe, we, c.pop-name.ensures.lists) at c.divide.ensures.lists)
    (rw (kept_unused c.pop-name.ensures.chain, oe, we) at (c.divide.ensures.unused _ _ h)))

pub invariant_of-self : goal.invariant_of-self
invariant_of-self g c = let at = goal.at.invariant_of-self g c in (done g at.After-divide (call g at.After-pop-name) (holding g at.After-pop-name) 0 _ refl).0

pub returns-clause-step : goal.returns-clause-step
returns-clause-step g c needed found =
    let at = goal.at.returns-clause-step g c in
    let seen = c.self.view_is in
    let P : View → Type 0 = λ u. Splits needed c.args.size (padding_to c.args.align) u (shown (left g at.After-divide)) (record { name = c.pop-name.result; offset = c.offset-offset.result + padding_to c.args.align c.offset-offset.result }) in
    rw c.handle_of.ensures
    (subst P seen ((done g at.After-divide (call g at.After-pop-name) (holding g at.After-pop-name) c.divide.new.store.accesses _ refl).1 needed
    (subst (λ (u : View). IsFoundFrom (up needed) u.bins (Some c.args.class)) (sym seen) found)))

pub overflow_add-parts : goal.overflow_add-parts
overflow_add-parts g c = let at = goal.at.overflow_add-parts g c in omega (arith, fits g at.After-size-whole (call g at.After-pop-name) (holding g at.After-pop-name))

pub divide-requires-clause-start : goal.divide-requires-clause-start
divide-requires-clause-start g c = ap (λ o. o + padding_to c.args.align c.offset-offset.result) c.offset-offset.ensures.cell

pub handle_of-requires : goal.handle_of-requires
handle_of-requires g c =
    let h = held (call g (goal.at.handle_of-requires g c).After-pop-name) refl in
    let k = c.self.invariant in
    omega (arith, h.below, h.chain.within, k.memory, k.admitted)
