use Rattle.std.specs.Prelude.{max, min}
use Rattle.offset_allocator.proofs.{AtOffset.IsWhole, Sound.shown, Sound.AreSound, Sound.Fields, Sound.fields_of, Linking.Places.at_place, Linking.Places.kept_place, Linking.Names.kept_unused}
use Rattle.offset_allocator.proofs.{Tallies.one-same, Filing.Uses.removed_unlisted, Common.length, Common.◌≢◌, Common.[], Common.◌∷◌, Common.Splits}
use Rattle.offset_allocator.proofs.Common.{◌≡◌, ◌+◌, ◌-◌, ◌∙◌, ℕ, ap, arith, refl, subst, sym, up, Handle, Node, View, IsFoundFrom, Some, AdmitsBlocks, units, bin_at}
use Rattle.offset_allocator.proofs.Granting.{Call, got, held, unlisted, units_free, granted}
use Rattle.offset_allocator.proofs.AllocatorOf.grant_part.Goals as goal
use Rattle.offset_allocator.proofs.AllocatorOf.grant_part.{Goals.After-pop-name, Goals.After-divide, Given.Over}

-- what the contract asks of the view, said of the fields
call : (g : Over) (c : After-pop-name g)
    → Call (fields_of g.T.Tables.cells g.T.Index.NodeIndex.MAX c.self.inside) c.args.class c.pop-name.result
call g c = record {
  sound = c.self.invariant;
  classed = c.requires.classed;
  older = _;
  newest = c.pop-name.ensures.first;
}

-- the parts are those of the block
parted : (g : Over) (c : After-pop-name g)
    → (c.args.start ≡ units (got (call g c)).place.before + c.args.parts.padding)
    × (c.args.parts.padding + c.args.parts.size + c.args.parts.remainder ≡ (got (call g c)).place.block.size)
parted g c =
    let p = call g c in
    subst (IsWhole c.args.class c.args.start c.args.parts.padding c.args.parts.size c.args.parts.remainder)
    (sym c.self.view_is) c.requires.whole
    (got p).place p.older (got p).list_is (p.newest ∙ ap (λ y. y ∷ p.older) (sym (got p).name))

pub pop-name-requires-clause-some : goal.pop-name-requires-clause-some
pop-name-requires-clause-some g c =
    subst (λ (u : View). bin_at u.bins c.args.class ≢ [])
    (sym c.self.view_is) c.requires.filled

pub divide-requires-clause-place : goal.divide-requires-clause-place
divide-requires-clause-place g c =
    let p = call g (goal.at.divide-requires-clause-place g c).After-pop-name in
    let enough = rw (← c.self.view_is) at c.requires.enough in
    let all = ap length (got p).list_is in (
      _,
      _,
      kept_place c.pop-name.ensures.chain (held p refl),
      rw c.pop-name.ensures.lists (unlisted p),
      omega (arith, enough, all, c.self.invariant.memory),
      λ l. omega (arith, enough, all, c.self.invariant.memory),
    )

pub divide-requires-clause-start : goal.divide-requires-clause-start
divide-requires-clause-start g c =
    let at = goal.at.divide-requires-clause-start g c in
    let h = kept_place c.pop-name.ensures.chain (held (call g at.After-pop-name) refl) in
    (parted g at.After-pop-name).0 ∙ ap (λ o. o + c.args.parts.padding) (sym (ap (λ (v : Node). v.offset) (at_place h)))

pub divide-requires-clause-whole : goal.divide-requires-clause-whole
divide-requires-clause-whole g c =
    let at = goal.at.divide-requires-clause-whole g c in
    let h = kept_place c.pop-name.ensures.chain (held (call g at.After-pop-name) refl) in
    (parted g at.After-pop-name).1 ∙ sym (ap (λ (v : Node). v.size) (at_place h))

pub divide-requires-clause-unlisted : goal.divide-requires-clause-unlisted
divide-requires-clause-unlisted g c =
    let p = call g (goal.at.divide-requires-clause-unlisted g c).After-pop-name in
    rw c.pop-name.ensures.lists (removed_unlisted p.sound.bins.linked c.args.class p.classed c.pop-name.result (rw p.newest (omega (arith, one-same c.pop-name.result))))

pub overflow_sub-self : goal.overflow_sub-self
overflow_sub-self g c =
    let at = goal.at.overflow_sub-self g c in
    let w = parted g at.After-pop-name in
    units_free (call g at.After-pop-name) c.args.parts.size (λ begin. c.args.start - begin) (omega (arith, w.0, w.1))

-- the fields that are left
abbrev left : (g : Over) → After-divide g → ℕ → Fields
left g c k = record (fields_of g.T.Tables.cells g.T.Index.NodeIndex.MAX c.self.inside) {
  cells = (g.T.Tables.cells c.divide.new.store.tables);
  last = c.divide.new.store.last;
  count = c.divide.new.store.spare_count;
  top = c.divide.new.store.top_mask;
  free = c.self.inside.free_total - c.args.parts.size;
  accesses = k;
}

-- they are sound, and what was split
done : (g : Over) (c : After-divide g)
    (p : Call (fields_of g.T.Tables.cells g.T.Index.NodeIndex.MAX c.self.inside) c.args.class
    c.pop-name.result)
    → (c.args.start ≡ units (got p).place.before + c.args.parts.padding)
    × (c.args.parts.padding + c.args.parts.size + c.args.parts.remainder ≡ (got p).place.block.size) → (k : ℕ) (f : Fields)
    → f ≡ left g c k
    → AreSound f
    × ((needed : ℕ) → IsFoundFrom (up needed)
    (shown (fields_of g.T.Tables.cells g.T.Index.NodeIndex.MAX c.self.inside)).bins (Some c.args.class)
    → Splits needed c.args.parts.size (λ begin. c.args.start - begin)
    (shown (fields_of g.T.Tables.cells g.T.Index.NodeIndex.MAX c.self.inside)) (shown f)
    (record { name = c.pop-name.result; offset = c.args.start }))
done g c p w k f e =
    let h = kept_place c.pop-name.ensures.chain (held p refl) in
    let before = units (got p).place.before in
    let pe : c.args.parts.padding ≡ c.args.start - before = omega (arith, w.0) in
    let re : c.args.parts.remainder ≡ (got p).place.block.size - ((c.args.start - before) + c.args.parts.size) = omega (arith, w.0, w.1) in
    let se : before + (c.args.start - before) ≡ c.args.start = omega (arith, w.0) in
    let place = c.divide.ensures.place _ _ h in
    let most = max 1 (min 1 c.args.parts.padding + min 1 c.args.parts.remainder) in
    let room = subst (AdmitsBlocks most) (sym c.self.view_is) c.requires.enough in
    let r = granted p c.args.parts.size (λ begin. c.args.start - begin) (omega (arith, w.0, w.1)) most room (omega arith) (omega (arith, w.0, w.1)) _ _ _ _ _
    (rw (pe, re) at place) {accesses = k} c.divide.ensures.binned (rw (pe, re, c.pop-name.ensures.lists) at c.divide.ensures.lists)
    (rw (kept_unused c.pop-name.ensures.chain, pe, re) at (c.divide.ensures.unused _ _ h)) in
    rw e (
      r.0,
      λ needed found. subst (λ (o : ℕ). Splits needed c.args.parts.size (λ begin. c.args.start - begin) (shown (fields_of g.T.Tables.cells g.T.Index.NodeIndex.MAX c.self.inside)) (shown (left g c k))
          (let h : Handle = record { name = c.pop-name.result; offset = o } in h)) se (r.1 needed found),
    )

pub invariant_of-self : goal.invariant_of-self
invariant_of-self g c = let at = goal.at.invariant_of-self g c in (done g at.After-divide (call g at.After-pop-name) (parted g at.After-pop-name) 0 _ refl).0

pub returns-clause-step : goal.returns-clause-step
returns-clause-step g c needed found =
    let at = goal.at.returns-clause-step g c in
    let seen = c.self.view_is in
    let P : View → Type 0 = λ u. Splits needed c.args.parts.size (λ begin. c.args.start - begin) u (shown (left g at.After-divide c.divide.new.store.accesses)) (record { name = c.pop-name.result; offset = c.args.start }) in
    rw c.handle_of.ensures
    (subst P seen ((done g at.After-divide (call g at.After-pop-name) (parted g at.After-pop-name) c.divide.new.store.accesses _ refl).1 needed
    (subst (λ (u : View). IsFoundFrom (up needed) u.bins (Some c.args.class)) (sym seen) found)))

pub handle_of-requires : goal.handle_of-requires
handle_of-requires g c =
    let h = held (call g (goal.at.handle_of-requires g c).After-pop-name) refl in
    let k = c.self.invariant in
    omega (arith, h.below, h.chain.within, k.memory, k.admitted)
