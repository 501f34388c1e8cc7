use Rattle.offset_allocator.proofs.Common.{◌∙◌, ap, length, node, Node, ChainCells, arith}
use Rattle.offset_allocator.proofs.{Fresh.bare_length, Fresh.bare_idle, Linking.Readied.node-with_node, Linking.Readied.length-with_node, Linking.Readied.reserved-with_node}
use Rattle.offset_allocator.proofs.states.copy.with_nodes.Goals as goal

pub loop-made-init : goal.loop-made-init
loop-made-init g c = record {
  nodes = bare_length c.in_ok-tables.ensures.chain;
  reserved = c.in_ok-tables.ensures.chain.reserved;
  idle = bare_idle c.in_ok-tables.ensures.chain;
  empty = c.in_ok-tables.ensures.bins;
}

pub loop-made-preserved : goal.loop-made-preserved
loop-made-preserved g c =
    let old = (g.T.Tables.cells c.loop-made.tables).chain in
    let e = c.add.ensures.chain in
    let i = c.loop-made.invariant in
    record {
      nodes = omega (arith, ap (λ (k : ChainCells). length k.nodes) e, length-with_node old c.loop-made.made, i.nodes);
      reserved = ap (λ (k : ChainCells). k.reserved) e ∙ reserved-with_node old c.loop-made.made ∙ i.reserved;
      idle = λ x. ap (λ (k : ChainCells). (node k x).used) e ∙ ap (λ (n : Node). n.used) (node-with_node old c.loop-made.made x) ∙ i.idle x;
      empty = record { heads = c.add.ensures.heads ∙ i.empty.heads; masks = c.add.ensures.masks ∙ i.empty.masks };
    }
