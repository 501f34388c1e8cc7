use Rattle.offset_allocator.proofs.Common.{◌≡◌, ◌∙◌, ℕ, true, refl, sym, subst, ap, arith, length, take, List, [], ◌∷◌, ◌++◌, node, Block, Node, AdmitsBlocks, units}
use Rattle.offset_allocator.proofs.{Sound.fields_of, Classes.down_small, Linking.Names.kept_unused, Linking.Names.next_taken, Linking.Names.ready_place, Linking.Places.at_place}
use Rattle.offset_allocator.proofs.{Linking.Places.end_place, Linking.Places.last_place, Linking.Places.placed, Views.ViewChain.blocks-chain, Extending.Growth, Extending.Grown, Extending.end}
use Rattle.offset_allocator.proofs.{Extending.end_held, Extending.free_fits, Extending.split_fits, Extending.append_unlisted, Extending.appended}
use Rattle.offset_allocator.proofs.AllocatorOf.append.Goals as goal
use Rattle.offset_allocator.proofs.AllocatorOf.append.{Goals.After-self, Goals.After-size-whole, Goals.After-push, Given.Over}

-- what the call knows of the fields
pre : (g : Over) (c : After-self g) → Growth (fields_of g.T.Tables.cells g.T.Index.NodeIndex.MAX c.self.inside) c.args.more true
pre g c = record { sound = c.self.invariant; some = c.requires.more; fits = rw (← c.self.view_is) at c.requires.fits; ends = rw (← c.self.view_is) at c.requires.used }

pub ensure_spare-requires : goal.ensure_spare-requires
ensure_spare-requires g c = record { memory = (_, _, _, c.self.invariant.space, omega (arith, rw (← c.self.view_is) at c.requires.enough, c.self.invariant.memory)) }

pub offset-offset-requires : goal.offset-offset-requires
offset-offset-requires g c = (ready_place c.ensure_spare.ensures.readies (end_place c.self.invariant.space)).below

pub size-whole-requires : goal.size-whole-requires
size-whole-requires g c = (ready_place c.ensure_spare.ensures.readies (end_place c.self.invariant.space)).below

pub split-name-requires-clause-place : goal.split-name-requires-clause-place
split-name-requires-clause-place g c = (_, _, ready_place c.ensure_spare.ensures.readies (end_place c.self.invariant.space))

pub grow-requires-clause-place : goal.grow-requires-clause-place
grow-requires-clause-place g c = (_, _, _, _, last_place _ _ _ (c.split-name.ensures.place _ _ (ready_place c.ensure_spare.ensures.readies (end_place c.self.invariant.space))))

-- the units of the last block
whole : (g : Over) (c : After-size-whole g) → c.size-whole.result ≡ (node (g.T.Tables.cells c.self.inside.store.tables).chain c.self.inside.store.last).size
whole g c = c.size-whole.ensures.cell ∙ ap (λ (n : Node). n.size) (c.ensure_spare.ensures.readies.node c.self.inside.store.last)

pub grow-requires-clause-fits : goal.grow-requires-clause-fits
grow-requires-clause-fits g c =
    let at = goal.at.grow-requires-clause-fits g c in
    let r = pre g at.After-self in
    let held = ready_place c.ensure_spare.ensures.readies (end_held r refl) in
    omega (arith, split_fits r c.split-name.result c.size-whole.result (whole g at.After-size-whole), ap units (blocks-chain _ _ _ _ _ (c.split-name.ensures.place _ _ held).chain))

pub push-requires-clause-classed : goal.push-requires-clause-classed
push-requires-clause-classed g c = omega (arith, down_small c.args.more, c.uint_to_float_round_down.ensures.is)

pub push-requires-clause-binned : goal.push-requires-clause-binned
push-requires-clause-binned g c = rw (c.grow.ensures.bins, c.split-name.ensures.bins.0, c.split-name.ensures.bins.1) (c.ensure_spare.ensures.readies.bins _ c.self.invariant.bins).0

pub push-requires-clause-idle : goal.push-requires-clause-idle
push-requires-clause-idle g c =
    let r = pre g (goal.at.push-requires-clause-idle g c).After-self in
    let split = last_place _ _ _ (c.split-name.ensures.place _ _ (ready_place c.ensure_spare.ensures.readies (end_held r refl))) in
    let grown = c.grow.ensures.place _ _ _ _ split in
    ap (λ (v : Node). v.used) (at_place (placed grown.chain refl))

pub push-requires-clause-unlisted : goal.push-requires-clause-unlisted
push-requires-clause-unlisted g c =
    let r = pre g (goal.at.push-requires-clause-unlisted g c).After-self in
    rw (c.grow.ensures.bins, c.split-name.ensures.bins.0, (c.ensure_spare.ensures.readies.bins _ c.self.invariant.bins).1)
    (append_unlisted r c.split-name.result (c.split-name.ensures.fresh _ _ (ready_place c.ensure_spare.ensures.readies (end_held r refl))))

pub overflow_add-self-2 : goal.overflow_add-self-2
overflow_add-self-2 g c = omega (arith, free_fits (pre g (goal.at.overflow_add-self-2 g c).After-self))

done : (g : Over) (c : After-push g) (r : Growth (fields_of g.T.Tables.cells g.T.Index.NodeIndex.MAX c.self.inside) c.args.more true) (k : ℕ)
    → Grown r (g.T.Tables.cells c.push.new.store.tables) c.push.new.store.last c.push.new.store.spare_count c.push.new.store.top_mask k
done g c r k =
    let here = end_held r refl in
    let held = ready_place c.ensure_spare.ensures.readies here in
    let grown = c.grow.ensures.place _ _ _ _ (last_place _ _ _ (c.split-name.ensures.place _ _ held)) in
    let size = c.size-whole.ensures.cell ∙ ap (λ (n : Node). n.size) (c.ensure_spare.ensures.readies.node c.self.inside.store.last) in
    let unused = c.split-name.ensures.unused ∙ ap (λ (u : List ℕ). u ++ c.split-name.result ∷ []) (sym (kept_unused c.push.ensures.chain ∙ ap (take c.split-name.new.store.spare_count) c.grow.ensures.spare)) in
    let taken = next_taken c.split-name.result _ _ here c.ensure_spare.ensures.unused unused in
    rw (c.push.ensures.chain.1, c.push.ensures.chain.2)
    (appended r (g.T.Tables.cells c.push.new.store.tables) k
    (subst (AdmitsBlocks 1) (sym c.self.view_is) c.requires.enough)
    size (rw c.push.ensures.chain.0 grown.chain) c.push.ensures.binned
    (rw (c.grow.ensures.bins, c.split-name.ensures.bins.0, (c.ensure_spare.ensures.readies.bins _ c.self.invariant.bins).1, c.uint_to_float_round_down.ensures.is) at c.push.ensures.lists)
    (c.split-name.ensures.fresh _ _ held)
    (rw c.push.ensures.chain.0 (omega (arith, c.split-name.ensures.below, c.split-name.ensures.nodes, c.grow.ensures.nodes)))
    (rw (← ap (λ (l : List Block). length l) (end r).is, c.push.ensures.chain.2) at taken))

pub invariant_of-self : goal.invariant_of-self
invariant_of-self g c = let at = goal.at.invariant_of-self g c in (done g at.After-push (pre g at.After-self) 0).0

pub returns-clause-step : goal.returns-clause-step
returns-clause-step g c = let at = goal.at.returns-clause-step g c in rw (← c.self.view_is) (done g at.After-push (pre g at.After-self) c.push.new.store.accesses).1

pub returns-clause-kept : goal.returns-clause-kept
returns-clause-kept g c = let at = goal.at.returns-clause-kept g c in rw (← c.self.view_is) (done g at.After-push (pre g at.After-self) c.push.new.store.accesses).2
