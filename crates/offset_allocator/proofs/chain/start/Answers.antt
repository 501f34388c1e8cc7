use Rattle.offset_allocator.proofs.Common.{ℕ, ◌∙◌, [], ◌∷◌, Option, false, ap, ap₂, arith, Cells, put, free_block, IsChain, common_steps}
use Rattle.offset_allocator.proofs.{Fresh.bare_idle, Fresh.bare_length, Fresh.start-chain, Views.ViewChain.blocks-chain, Views.ViewChain.space-chain}
use Rattle.offset_allocator.proofs.chain.start.Goals as goal
use Rattle.offset_allocator.proofs.chain.start.Given.{Over}

pub set_block-requires : goal.set_block-requires
set_block-requires g c = grind (arith, common_steps, bare_length, bare_idle)

done : (g : Over) (c : goal.After-set_block g) → IsChain (g.T.Tables.cells c.set_block.new.self).chain c.args.max_allocs 0 0 (free_block 0 c.args.size ∷ [])
done g c =
    let written : Option ℕ → Option ℕ → Cells =
    λ b a. record (g.T.Tables.cells c.args.tables.now)
    { chain = put (g.T.Tables.cells c.args.tables.now).chain 0 (record { offset = 0; size = c.args.size; used = false; before = b; after = a }) } in
    let rm = ap (λ (v : Cells). v.chain) (c.set_block.ensures.cells ∙ ap₂ written c.no_link.ensures.link c.no_link-2.ensures.link) in
    start-chain c.requires.bare c.args.size (omega (arith, bare_length c.requires.bare, c.shape.ensures.within, c.requires.bare.reserved))
    (omega arith) (g.T.Tables.cells c.set_block.new.self).chain rm

pub returns-clause-space : goal.returns-clause-space
returns-clause-space g c = space-chain _ _ _ _ _ (done g c)

pub returns-clause-blocks : goal.returns-clause-blocks
returns-clause-blocks g c = blocks-chain _ _ _ _ _ (done g c)

pub returns-clause-node : goal.returns-clause-node
returns-clause-node g c = omega (arith, (done g c).full)

pub returns-clause-reserved : goal.returns-clause-reserved
returns-clause-reserved g c = (done g c).memory
