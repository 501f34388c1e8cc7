use Rattle.offset_allocator.proofs.{Common.refl, Common.Node, Common.link_of, Arranging.Entries.bound, Arranging.Entries.even_set, Arranging.Entries.wrote-chain}
use Rattle.offset_allocator.proofs.layouts.by_node.ByNodeTables.set_start.Goals as goal

pub returns-clause-cells : goal.returns-clause-cells
returns-clause-cells g c = wrote-chain _ _ _ c.self.view_is c.args.name c.index_mut-node.result.now _ (λ (n : Node). record n {
  offset = c.args.offset;
  size = c.args.size;
  before = link_of g.NI.NodeIndex.MAX (g.NI.NodeIndex.number c.args.link);
}) c.requires c.index_mut-node.ensures.value refl refl refl

pub index_mut-node-requires : goal.index_mut-node-requires
index_mut-node-requires g c = bound g.NI.NodeIndex.MAX g.NI.NodeIndex.number c.self.inside c.self.view_is c.args.name c.requires

pub invariant_of-self : goal.invariant_of-self
invariant_of-self g c = even_set _ _ c.self.invariant c.args.name _
