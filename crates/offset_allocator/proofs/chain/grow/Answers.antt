use Rattle.offset_allocator.proofs.{Views.ViewChain.blocks-chain, Linking.Places.at_place, Linking.Writes.grow_place, Tallies.units-append, Linking.Nodes.spare-put}
use Rattle.offset_allocator.proofs.Common.{ap, arith, [], ◌∷◌, Cells, Node, units, refl}
use Rattle.offset_allocator.proofs.chain.grow.Goals as goal

pub overflow_add-size : goal.overflow_add-size
overflow_add-size g c =
    let r = c.requires.place in
    omega (arith, c.size-size.ensures.cell, ap (λ (v : Node). v.size) (at_place r.4), ap units (blocks-chain _ _ _ _ _ r.4.chain), c.requires.fits, units-append r.2 (r.3 ∷ []))

pub returns-clause-place : goal.returns-clause-place
returns-clause-place g c m spare before b h =
    grow_place c.args.more h (omega (arith, ap units (blocks-chain _ _ _ _ _ h.chain), c.requires.fits)) c.size-size.ensures.cell (ap (λ (v : Cells). v.chain) c.set_size.ensures.cells)

pub returns-clause-spare : goal.returns-clause-spare
returns-clause-spare g c = rw (c.set_size.ensures.cells, spare-put) refl
