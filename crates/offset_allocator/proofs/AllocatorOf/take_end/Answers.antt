use Rattle.offset_allocator.proofs.{Sound.shown, Sound.fields_of, Classes.down_small, Linking.Ends.last_none, Linking.Places.at_place, Linking.Places.end_place, Linking.Places.previous_place}
use Rattle.offset_allocator.proofs.{Linking.Places.kept_place, Linking.Names.kept_unused}
use Rattle.offset_allocator.proofs.Common.{◌∷◌, ◌++◌, List, ap₂, take, ◌≡◌, ◌-◌, ◌≤◌, ◌∙◌, ℕ, [], length, refl, sym, ap, subst, arith, inr, false, Node, node, ChainCells, View}
use Rattle.offset_allocator.proofs.Extending.{EndsFree, last_of, last_held, last_size, last_free, last_listed, last_unlisted}
use Rattle.offset_allocator.proofs.Moving.Retracted.{Cut, size_fits, free_fits, narrowed_to, dropped, too_few}
use Rattle.offset_allocator.specs.Moving.Retracting.{Retracts}
use Rattle.offset_allocator.proofs.AllocatorOf.take_end.Goals as goal
use Rattle.offset_allocator.proofs.AllocatorOf.take_end.{Goals.After-size-size, Goals.After-remove, Goals.After-drop_end, Goals.After-push, Given.Over}

-- what the call knows of the fields
pre : (g : Over) (c : After-size-size g) → EndsFree (fields_of g.T.Tables.cells g.T.Index.NodeIndex.MAX c.self.inside)
pre g c = record { sound = c.self.invariant; ends = rw (← c.self.view_is) at c.requires.free }

its_size : (g : Over) (c : After-size-size g) → c.size-size.result ≡ (last_of (pre g c)).last.size
its_size g c = c.size-size.ensures.cell ∙ last_size (pre g c)

pub size-size-requires : goal.size-size-requires
size-size-requires g c = (end_place c.self.invariant.space).below

pub returns-then-size-less-clause-step : goal.returns-then-size-less-clause-step
returns-then-size-less-clause-step g c =
    let at = (goal.at.returns-then-size-less-clause-step g c).After-size-size in
    subst (λ (v : View). Retracts c.args.less v (shown (record (fields_of g.T.Tables.cells g.T.Index.NodeIndex.MAX c.self.inside) { accesses = c.size-size.new.count })) false) c.self.view_is
    (c.requires.some, too_few (pre g at) c.args.less (omega (arith, its_size g at, c.if-size-less.true)), refl)

pub next_end-previous-requires : goal.next_end-previous-requires
next_end-previous-requires g c = (end_place c.self.invariant.space).below

pub remove-requires-clause-listed : goal.remove-requires-clause-listed
remove-requires-clause-listed g c = rw c.size-size.ensures.cell (last_listed (pre g (goal.at.remove-requires-clause-listed g c).After-size-size))

pub overflow_sub-self : goal.overflow_sub-self
overflow_sub-self g c = let at = (goal.at.overflow_sub-self g c).After-size-size in size_fits (pre g at) c.args.less (omega (arith, its_size g at, c.if-size-less.false))

pub overflow_sub-self-2 : goal.overflow_sub-self-2
overflow_sub-self-2 g c = let at = (goal.at.overflow_sub-self-2 g c).After-size-size in free_fits (pre g at) c.args.less (omega (arith, its_size g at, c.if-size-less.false))

pub drop_end-requires : goal.drop_end-requires
drop_end-requires g c =
    let r = pre g (goal.at.drop_end-requires g c).After-size-size in
    let i = previous_place (last_held r refl) c.in-Some.ensures.some.1 in
    record { place = (_, i.front, i.block, _, kept_place c.remove.ensures.chain i.place, last_free r, its_size g (goal.at.drop_end-requires g c).After-size-size) }

pub trim-requires : goal.trim-requires
trim-requires g c = record { place = (_, _, _, _, last_held (pre g (goal.at.trim-requires g c).After-size-size) c.remove.ensures.chain.0) }

pub push-requires-clause-named : goal.push-requires-clause-named
push-requires-clause-named g c = omega (arith, (end_place c.self.invariant.space).below, c.trim.ensures.nodes, ap (λ (r : ChainCells). length r.nodes) c.remove.ensures.chain.0)

pub push-requires-clause-idle : goal.push-requires-clause-idle
push-requires-clause-idle g c =
    let at = (goal.at.push-requires-clause-idle g c).After-size-size in
    let r = pre g at in
    ap (λ (v : Node). v.used) (at_place (c.trim.ensures.place _ _ _ _ (last_held r c.remove.ensures.chain.0) (omega (arith, its_size g at)))) ∙ last_free r

pub push-requires-clause-classed : goal.push-requires-clause-classed
push-requires-clause-classed g c = omega (arith, down_small (c.size-size.result - c.args.less), c.uint_to_float_round_down.ensures.is)

pub push-requires-clause-unlisted : goal.push-requires-clause-unlisted
push-requires-clause-unlisted g c = rw (c.trim.ensures.bins, c.remove.ensures.lists, c.size-size.ensures.cell) (last_unlisted (pre g (goal.at.push-requires-clause-unlisted g c).After-size-size))

enough : (g : Over) (c : After-size-size g) → c.args.less ≤ c.size-size.result → c.args.less ≤ (last_of (pre g c)).last.size
enough g c l = omega (arith, its_size g c, l)

-- the last block is gone
done_some : (g : Over) (c : After-drop_end g) (r : EndsFree (fields_of g.T.Tables.cells g.T.Index.NodeIndex.MAX c.self.inside)) (e : c.size-size.result ≡ (last_of r).last.size) (l : c.args.less
    ≤ (last_of r).last.size) (k : ℕ)
    → Cut r c.args.less l (g.T.Tables.cells c.drop_end.new.store.tables) c.drop_end.new.store.last c.drop_end.new.store.spare_count c.drop_end.new.store.top_mask k
done_some g c r e l k =
    let i = previous_place (last_held r refl) c.in-Some.ensures.some.1 in
    let place = c.drop_end.ensures.place _ i.front i.block (last_of r).last (kept_place c.remove.ensures.chain i.place) (last_free r) in
    dropped r c.args.less l i.front i.block i.is (omega (arith, e, l, c.in-Some.ensures.some.0)) _ k _ place.chain (rw (c.drop_end.ensures.bins.0, c.drop_end.ensures.bins.1) c.remove.ensures.binned)
    (rw (c.drop_end.ensures.bins.0, c.remove.ensures.lists, c.size-size.ensures.cell) refl)
    (c.drop_end.ensures.unused ∙ ap₂ (λ (u : List ℕ) (n : ℕ). u ++ n ∷ []) (kept_unused c.remove.ensures.chain) c.remove.ensures.chain.1)

-- some of it stays
done_none : (g : Over) (c : After-push g) (r : EndsFree (fields_of g.T.Tables.cells g.T.Index.NodeIndex.MAX c.self.inside)) (e : c.size-size.result ≡ (last_of r).last.size) (l : c.args.less
    ≤ (last_of r).last.size) (k : ℕ)
    → Cut r c.args.less l (g.T.Tables.cells c.push.new.store.tables) c.push.new.store.last c.push.new.store.spare_count c.push.new.store.top_mask k
done_none g c r e l k =
    let trimmed = c.trim.ensures.place _ _ _ _ (last_held r c.remove.ensures.chain.0) (omega (arith, e)) in
    let alone : (node (g.T.Tables.cells c.self.inside.store.tables).chain c.self.inside.store.last).size - c.args.less ≡ 0 → (last_of r).front ≡ [] =
    λ q. last_none (last_of r).front (sym (c.in-None.ensures.none refl (omega (arith, q, c.size-size.ensures.cell)) ∙ ap (λ (v : Node). v.before) (at_place (last_held r refl)))) in
    rw (c.push.ensures.chain.1, c.push.ensures.chain.2, c.remove.ensures.chain.1, c.remove.ensures.chain.2)
    (narrowed_to r c.args.less l ((node (g.T.Tables.cells c.self.inside.store.tables).chain c.self.inside.store.last).size - c.args.less) (omega (arith, e, c.size-size.ensures.cell)) alone
    (g.T.Tables.cells c.push.new.store.tables) k
    (rw (c.push.ensures.chain.0, ← c.size-size.ensures.cell) trimmed.chain) c.push.ensures.binned
    (rw (c.trim.ensures.bins, c.remove.ensures.lists, c.uint_to_float_round_down.ensures.is, c.size-size.ensures.cell) at c.push.ensures.lists)
    (ap (take c.self.inside.store.spare_count) (ap (λ (t : ChainCells). t.spare) c.push.ensures.chain.0 ∙ c.trim.ensures.spare ∙ ap (λ (t : ChainCells). t.spare) c.remove.ensures.chain.0)))

pub invariant_of-self-in-Some : goal.invariant_of-self-in-Some
invariant_of-self-in-Some g c =
    let at = goal.at.invariant_of-self-in-Some g c in
    (done_some g at.After-drop_end (pre g at.After-size-size) (its_size g at.After-size-size) (enough g at.After-size-size c.if-size-less.false) 0).0

pub invariant_of-self-in-None : goal.invariant_of-self-in-None
invariant_of-self-in-None g c =
    let at = goal.at.invariant_of-self-in-None g c in
    (done_none g at.After-push (pre g at.After-size-size) (its_size g at.After-size-size) (enough g at.After-size-size c.if-size-less.false) 0).0

pub returns-in-Some-clause-step : goal.returns-in-Some-clause-step
returns-in-Some-clause-step g c =
    let at = goal.at.returns-in-Some-clause-step g c in
    rw (← c.self.view_is)
    (inr (
      c.requires.some,
      (done_some g at.After-drop_end (pre g at.After-size-size) (its_size g at.After-size-size) (enough g at.After-size-size c.if-size-less.false) c.drop_end.new.store.accesses).1,
    ))

pub returns-in-None-clause-step : goal.returns-in-None-clause-step
returns-in-None-clause-step g c =
    let at = goal.at.returns-in-None-clause-step g c in
    rw (← c.self.view_is)
    (inr (c.requires.some, (done_none g at.After-push (pre g at.After-size-size) (its_size g at.After-size-size) (enough g at.After-size-size c.if-size-less.false) c.push.new.store.accesses).1))

pub returns-in-Some-clause-kept : goal.returns-in-Some-clause-kept
returns-in-Some-clause-kept g c =
    let at = goal.at.returns-in-Some-clause-kept g c in
    rw (← c.self.view_is) (done_some g at.After-drop_end (pre g at.After-size-size) (its_size g at.After-size-size) (enough g at.After-size-size c.if-size-less.false) c.drop_end.new.store.accesses).2

pub returns-in-None-clause-kept : goal.returns-in-None-clause-kept
returns-in-None-clause-kept g c =
    let at = goal.at.returns-in-None-clause-kept g c in
    rw (← c.self.view_is) (done_none g at.After-push (pre g at.After-size-size) (its_size g at.After-size-size) (enough g at.After-size-size c.if-size-less.false) c.push.new.store.accesses).2
