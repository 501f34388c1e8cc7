use Rattle.offset_allocator.proofs.Common.{◌≡◌, ◌≤◌, ℕ, Some, ap, ap₂, push, arith, refl, sym, subst, ◌∙◌, down, length, times, bin_at, bins_in, Block, Node, View, Place, ChainCells, HasPlace}
use Rattle.offset_allocator.proofs.{Common.IsChain, Common.List, Sound.Fields, Sound.shown, Sound.fields_of, Sound.known_sound, Linking.Places.placed, Linking.Places.at_place, Holding.block_listed}
use Rattle.offset_allocator.proofs.{Holding.brought, Holding.place_there, Classes.down_small, Filing.Uses.removed_unlisted, AllocatorOf.bring_first.Goals.After-self}
use Rattle.offset_allocator.proofs.AllocatorOf.bring_first.Given.{Over}
use Rattle.offset_allocator.proofs.AllocatorOf.bring_first.Goals as goal

-- the block, in the tables
held : (g : Over) (c : After-self g) → HasPlace (g.T.Tables.cells c.self.inside.store.tables).chain (g.T.Tables.cells c.self.inside.store.tables).chain.reserved c.self.inside.store.last
    c.self.inside.store.spare_count c.args.name c.requires.free.0
held g c =
    let t = g.T.Tables.cells c.self.inside.store.tables in
    let P : List Block → Type 0 = λ bs. IsChain t.chain t.chain.reserved c.self.inside.store.last c.self.inside.store.spare_count bs in
    placed (subst P (ap (λ (u : View). u.blocks) c.self.view_is ∙ c.requires.free.1) c.self.invariant.space) c.requires.free.2

listed : (g : Over) (c : After-self g) → 1 ≤ times c.args.name (bin_at (bins_in g.T.Index.NodeIndex.MAX (g.T.Tables.cells c.self.inside.store.tables).bins) (down c.requires.free.0.block.size))
listed g c =
    let f : Fields = fields_of g.T.Tables.cells g.T.Index.NodeIndex.MAX c.self.inside in
    let p = c.requires.free.0 in
    subst (λ x. 1 ≤ times x (bin_at (shown f).bins (down p.block.size))) c.requires.free.2
    (block_listed (shown f) (known_sound f c.self.invariant (shown f) refl).0 p (ap (λ (u : View). u.blocks) c.self.view_is ∙ c.requires.free.1) c.requires.free.3)

pub size-size-requires : goal.size-size-requires
size-size-requires g c = (held g (goal.at.size-size-requires g c).After-self).below

pub remove-requires-clause-listed : goal.remove-requires-clause-listed
remove-requires-clause-listed g c =
    let at = goal.at.remove-requires-clause-listed g c in
    rw (c.size-size.ensures.cell, at_place (held g at.After-self)) (listed g at.After-self)

pub push-requires-clause-named : goal.push-requires-clause-named
push-requires-clause-named g c = omega (arith, (held g (goal.at.push-requires-clause-named g c).After-self).below, ap (λ (r : ChainCells). length r.nodes) c.remove.ensures.chain.0)

pub push-requires-clause-idle : goal.push-requires-clause-idle
push-requires-clause-idle g c = rw (c.remove.ensures.chain.0) (ap (λ (v : Node). v.used) (at_place (held g (goal.at.push-requires-clause-idle g c).After-self)) ∙ c.requires.free.3)

pub push-requires-clause-classed : goal.push-requires-clause-classed
push-requires-clause-classed g c = omega (arith, down_small c.size-size.result, c.uint_to_float_round_down-class.ensures.is)

pub push-requires-clause-unlisted : goal.push-requires-clause-unlisted
push-requires-clause-unlisted g c =
    let at = goal.at.push-requires-clause-unlisted g c in
    rw (c.remove.ensures.lists, c.size-size.ensures.cell, at_place (held g at.After-self))
    (removed_unlisted c.self.invariant.bins.linked (down c.requires.free.0.block.size) (down_small c.requires.free.0.block.size) c.args.name (listed g at.After-self))

pub invariant_of-self : goal.invariant_of-self
invariant_of-self g c =
    let at = goal.at.invariant_of-self g c in
    let f : Fields = fields_of g.T.Tables.cells g.T.Index.NodeIndex.MAX c.self.inside in
    brought f c.self.invariant (down c.size-size.result) c.args.name (down_small c.size-size.result) (rw (c.size-size.ensures.cell, at_place (held g at.After-self)) (listed g at.After-self))
    (g.T.Tables.cells c.push.new.store.tables) c.push.new.store.last c.push.new.store.spare_count c.push.new.store.top_mask 0 (c.push.ensures.chain.0 ∙ c.remove.ensures.chain.0)
    (c.push.ensures.chain.1 ∙ c.remove.ensures.chain.1) (c.push.ensures.chain.2 ∙ c.remove.ensures.chain.2) c.push.ensures.binned
    (c.push.ensures.lists ∙ ap₂ (λ (k : ℕ) (ls : List (List ℕ)). push k c.args.name ls) c.uint_to_float_round_down-class.ensures.is c.remove.ensures.lists)

pub returns-clause-class : goal.returns-clause-class
returns-clause-class g c p is e =
    let at = goal.at.returns-clause-class g c in
    let f : Fields = fields_of g.T.Tables.cells g.T.Index.NodeIndex.MAX c.self.inside in
    let w = (known_sound f c.self.invariant c.args.self.now c.self.view_is).0 in
    let q = c.requires.free.0 in
    let both : Some p ≡ Some q = sym (place_there c.args.self.now w p c.args.name is e) ∙ place_there c.args.self.now w q c.args.name c.requires.free.1 c.requires.free.2 in
    let same : p ≡ q = cc in
    c.uint_to_float_round_down-class.ensures.is
    ∙ ap down (c.size-size.ensures.cell ∙ ap (λ (v : Node). v.size) (at_place (held g at.After-self)) ∙ ap (λ (r : Place). r.block.size) (sym same))
