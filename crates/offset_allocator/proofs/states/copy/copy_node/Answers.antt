use Rattle.offset_allocator.proofs.Common.{ap, ◌∙◌, sym, arith, Cells, Node, node}
use Rattle.offset_allocator.proofs.{Saving.Alike.used_filled, Saving.Alike.idle_filled, Saving.Alike.node_is, Saving.Alike.marked, Linking.Nodes.node-put}
use Rattle.offset_allocator.proofs.states.copy.copy_node.Goals as goal

pub set_links-requires-clause-idle : goal.set_links-requires-clause-idle
set_links-requires-clause-idle g c =
    ap (λ (k : Cells). (node k.chain c.args.name).used) c.set_block.ensures.cells
    ∙ ap (λ (n : Node). n.used) (node-put (g.T.Tables.cells c.args.into.now).chain c.args.name _ (omega (arith, c.requires.named, c.requires.even)))

pub returns-then-used : goal.returns-then-used
returns-then-used g c =
    let n = node (g.T.Tables.cells c.args.from.now).chain c.args.name in
    used_filled _ _ c.shape-2.ensures (omega (arith, c.requires.named, c.requires.even)) c.set_block.ensures.cells c.older-older.ensures.cell c.set_older.ensures.cells c.set_used.ensures.cells
    (node_is n c.offset-offset.ensures.cell c.size-size.ensures.cell (sym c.if-used.true ∙ c.used.ensures.cell) c.before-before.ensures.cell c.after-after.ensures.cell)
    (marked c.shape.ensures c.requires.named (sym c.used.ensures.cell ∙ c.if-used.true))

pub returns-else-used : goal.returns-else-used
returns-else-used g c =
    let n = node (g.T.Tables.cells c.args.from.now).chain c.args.name in
    idle_filled _ _ c.shape-2.ensures (omega (arith, c.requires.named, c.requires.even)) c.set_block.ensures.cells c.older-older.ensures.cell _ c.set_links.ensures.cells
    (node_is n c.offset-offset.ensures.cell c.size-size.ensures.cell (sym c.if-used.false ∙ c.used.ensures.cell) c.before-before.ensures.cell c.after-after.ensures.cell)
    c.newer-newer.ensures.cell
