use Rattle.offset_allocator.proofs.Common.{take, ◌≡◌, false, refl, ◌+◌, ◌∙◌, ℕ, ap, arith, sym, Node, IsWellFormed, IsBinned, bins_in, HasPlace, Frees}
use Rattle.offset_allocator.proofs.{Filing.Filed.unlisted, Sound.Fields, Sound.AreSound, Sound.shown, Sound.fields_of, Sound.known_sound, Linking.Places.at_place, Freeing.Release, Freeing.at}
use Rattle.offset_allocator.proofs.{Freeing.room_for, Freeing.filed, Freeing.freed, Freeing.named_live, Ranges.frees_gone, Ranges.frees_others, Reading.live_used, Views.ViewTaken.well_frees}
use Rattle.offset_allocator.proofs.AllocatorOf.release.Goals as goal
use Rattle.offset_allocator.proofs.AllocatorOf.release.{Goals.After-self, Goals.After-set_used, Goals.After-coalesce, Given.Over}

release : (g : Over) (c : After-self g) → Release (fields_of g.T.Tables.cells g.T.Index.NodeIndex.MAX c.self.inside) c.args.name
release g c = record { sound = c.self.invariant; live = named_live _ _ _ _ c.self.view_is refl (live_used c.args.name c.args.self.now c.requires.live) }

-- the block once it is free, and the bins as they were
marked : (g : Over) (c : After-set_used g) (r : Release (fields_of g.T.Tables.cells g.T.Index.NodeIndex.MAX c.self.inside) c.args.name)
    → HasPlace (g.T.Tables.cells c.set_used.new.tables).chain (g.T.Tables.cells c.self.inside.store.tables).chain.reserved c.self.inside.store.last c.self.inside.store.spare_count c.args.name
    (record (at r).place { block = record (at r).place.block { used = false } })
marked g c r = c.set_used.ensures.place _ _ _ _ (at r).held

bins : (g : Over) (c : After-set_used g) (r : Release (fields_of g.T.Tables.cells g.T.Index.NodeIndex.MAX c.self.inside) c.args.name)
    → IsBinned g.T.Index.NodeIndex.MAX (g.T.Tables.cells c.set_used.new.tables).bins c.self.inside.store.top_mask
    × (bins_in g.T.Index.NodeIndex.MAX (g.T.Tables.cells c.set_used.new.tables).bins ≡ bins_in g.T.Index.NodeIndex.MAX (g.T.Tables.cells c.self.inside.store.tables).bins)
bins g c r = c.set_used.ensures.bins _ (unlisted (at r).held _ (filed r)) c.self.invariant.bins

-- the fields that the release leaves, with any number of accesses counted
abbrev after : (g : Over) → After-coalesce g → ℕ → Fields
after g c k = record (fields_of g.T.Tables.cells g.T.Index.NodeIndex.MAX c.self.inside) {
  cells = (g.T.Tables.cells c.coalesce.new.store.tables);
  last = c.coalesce.new.store.last;
  count = c.coalesce.new.store.spare_count;
  top = c.coalesce.new.store.top_mask;
  free = c.self.inside.free_total + c.size-size.result;
  accesses = k;
}

done : (g : Over) (c : After-coalesce g) (k : ℕ) → AreSound (after g c k) × Frees c.args.name c.args.self.now (shown (after g c k))
done g c k =
    let here = goal.at.returns-clause-step g c in
    let new : Fields = after g c k in
    let r = release g here.After-self in
    let h = marked g here.After-set_used r in
    let m = c.coalesce.ensures.place _ _ h in
    let bins_are = rw (ap (λ (v : Node). v.size) (at_place m), (bins g here.After-set_used r).1) at (c.coalesce.ensures.lists _ _ h) in
    let left = freed r new.cells new.last new.count new.top k m.chain c.coalesce.ensures.binned bins_are
    (rw (ap (take c.self.inside.store.spare_count) c.set_used.ensures.spare) at (c.coalesce.ensures.unused _ _ h)) in
    (rw (c.size-size.ensures.cell ∙ ap (λ (v : Node). v.size) (at_place (at r).held)) left.0, rw (← c.self.view_is) left.1)

pub size-size-requires : goal.size-size-requires
size-size-requires g c = (at (release g (goal.at.size-size-requires g c).After-self)).held.below

pub overflow_add-self : goal.overflow_add-self
overflow_add-self g c =
    let r = release g (goal.at.overflow_add-self g c).After-self in
    omega (arith, c.size-size.ensures.cell, ap (λ (v : Node). v.size) (at_place (at r).held), room_for r)

pub set_used-requires : goal.set_used-requires
set_used-requires g c = (at (release g (goal.at.set_used-requires g c).After-self)).held.below

pub coalesce-requires : goal.coalesce-requires
coalesce-requires g c =
    let here = goal.at.coalesce-requires g c in
    let r = release g here.After-self in
    let m = marked g here.After-set_used r in
    record {
      place = (_, _, m, rw (bins g here.After-set_used r).1 (filed r));
      binned = (bins g here.After-set_used r).0;
      idle = ap (λ (v : Node). v.used) (at_place m);
      size = c.size-size.ensures.cell ∙ ap (λ (v : Node). v.size) (at_place (at r).held) ∙ sym (ap (λ (v : Node). v.size) (at_place m));
    }

pub invariant_of-self : goal.invariant_of-self
invariant_of-self g c = (done g c 0).0

pub returns-clause-step : goal.returns-clause-step
returns-clause-step g c = (done g c c.coalesce.new.store.accesses).1

-- the views before and after it are well formed
well : (g : Over) (c : After-coalesce g) → IsWellFormed c.args.self.now
well g c = (known_sound (fields_of g.T.Tables.cells g.T.Index.NodeIndex.MAX c.self.inside) c.self.invariant c.args.self.now c.self.view_is).0

pub returns-clause-gone : goal.returns-clause-gone
returns-clause-gone g c = let f = returns-clause-step g c in frees_gone _ _ _ (well g c) (well_frees _ _ _ (well g c) f) f

pub returns-clause-others : goal.returns-clause-others
returns-clause-others g c = let f = returns-clause-step g c in frees_others _ _ _ (well g c) (well_frees _ _ _ (well g c) f) f
