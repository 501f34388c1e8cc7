use Rattle.offset_allocator.proofs.Common.{take, ◌+◌, ◌∙◌, ℕ, length, false, ap, arith, Node, ChainCells}
use Rattle.offset_allocator.proofs.Extending.{Growth, Grown, b_used, end_held, end_small, free_fits, widen_listed, widen_unlisted, widened}
use Rattle.offset_allocator.proofs.{Sound.fields_of, Classes.down_small, Linking.Places.at_place, Linking.Places.end_place}
use Rattle.offset_allocator.proofs.AllocatorOf.widen.Goals as goal
use Rattle.offset_allocator.proofs.AllocatorOf.widen.{Goals.After-self, Goals.After-push, Given.Over}

-- what the call knows of the fields
pre : (g : Over) (c : After-self g) → Growth (fields_of g.T.Tables.cells g.T.Index.NodeIndex.MAX c.self.inside) c.args.more false
pre g c = record { sound = c.self.invariant; some = c.requires.more; fits = rw (← c.self.view_is) at c.requires.fits; ends = rw (← c.self.view_is) at c.requires.free }

pub size-size-requires : goal.size-size-requires
size-size-requires g c = (end_place c.self.invariant.space).below

pub remove-requires-clause-listed : goal.remove-requires-clause-listed
remove-requires-clause-listed g c = rw c.size-size.ensures.cell (widen_listed (pre g (goal.at.remove-requires-clause-listed g c).After-self))

pub overflow_add-size : goal.overflow_add-size
overflow_add-size g c = omega (arith, end_small (pre g (goal.at.overflow_add-size g c).After-self), c.size-size.ensures.cell)

pub grow-requires-clause-place : goal.grow-requires-clause-place
grow-requires-clause-place g c = (_, _, _, _, end_held (pre g (goal.at.grow-requires-clause-place g c).After-self) c.remove.ensures.chain.0)

pub push-requires-clause-named : goal.push-requires-clause-named
push-requires-clause-named g c = omega (arith, (end_place c.self.invariant.space).below, c.grow.ensures.nodes, ap (λ (r : ChainCells). length r.nodes) c.remove.ensures.chain.0)

pub push-requires-clause-idle : goal.push-requires-clause-idle
push-requires-clause-idle g c =
    let r = pre g (goal.at.push-requires-clause-idle g c).After-self in
    let grown = c.grow.ensures.place _ _ _ _ (end_held r c.remove.ensures.chain.0) in
    ap (λ (v : Node). v.used) (at_place grown) ∙ b_used r

pub push-requires-clause-classed : goal.push-requires-clause-classed
push-requires-clause-classed g c = omega (arith, down_small (c.size-size.result + c.args.more), c.uint_to_float_round_down.ensures.is)

pub push-requires-clause-unlisted : goal.push-requires-clause-unlisted
push-requires-clause-unlisted g c = rw (c.grow.ensures.bins, c.remove.ensures.lists, c.size-size.ensures.cell) (widen_unlisted (pre g (goal.at.push-requires-clause-unlisted g c).After-self))

pub overflow_add-self-2 : goal.overflow_add-self-2
overflow_add-self-2 g c = omega (arith, free_fits (pre g (goal.at.overflow_add-self-2 g c).After-self))

done : (g : Over) (c : After-push g) (r : Growth (fields_of g.T.Tables.cells g.T.Index.NodeIndex.MAX c.self.inside) c.args.more false) (k : ℕ)
    → Grown r (g.T.Tables.cells c.push.new.store.tables) c.push.new.store.last c.push.new.store.spare_count c.push.new.store.top_mask k
done g c r k =
    let grown = c.grow.ensures.place _ _ _ _ (end_held r c.remove.ensures.chain.0) in
    rw (c.push.ensures.chain.1, c.push.ensures.chain.2, c.remove.ensures.chain.1, c.remove.ensures.chain.2)
    (widened r (g.T.Tables.cells c.push.new.store.tables) k (rw c.push.ensures.chain.0 grown.chain) c.push.ensures.binned
    (rw (c.grow.ensures.bins, c.remove.ensures.lists, c.uint_to_float_round_down.ensures.is, c.size-size.ensures.cell) at c.push.ensures.lists)
    (ap (take c.self.inside.store.spare_count) (ap (λ (t : ChainCells). t.spare) c.push.ensures.chain.0 ∙ c.grow.ensures.spare ∙ ap (λ (t : ChainCells). t.spare) c.remove.ensures.chain.0)))

pub invariant_of-self : goal.invariant_of-self
invariant_of-self g c = let at = goal.at.invariant_of-self g c in (done g at.After-push (pre g at.After-self) 0).0

pub returns-clause-step : goal.returns-clause-step
returns-clause-step g c = let at = goal.at.returns-clause-step g c in rw (← c.self.view_is) (done g at.After-push (pre g at.After-self) c.push.new.store.accesses).1

pub returns-clause-kept : goal.returns-clause-kept
returns-clause-kept g c = let at = goal.at.returns-clause-kept g c in rw (← c.self.view_is) (done g at.After-push (pre g at.After-self) c.push.new.store.accesses).2
