use Rattle.offset_allocator.proofs.{Common.arith, Arranging.Entries.bound, Arranging.Entries.even_set, Arranging.Entries.wrote-used}
use Rattle.offset_allocator.proofs.layouts.by_node.ByNodeTables.set_used.Goals as goal

pub returns-clause-cells : goal.returns-clause-cells
returns-clause-cells g c = wrote-used _ _ _ c.self.view_is c.args.name c.index_mut.result.now _ c.args.used (omega (arith, c.self.invariant.limit)) c.requires c.index_mut.ensures.value c.mark.ensures

pub index_mut-requires : goal.index_mut-requires
index_mut-requires g c = bound g.NI.NodeIndex.MAX g.NI.NodeIndex.number c.self.inside c.self.view_is c.args.name c.requires

pub invariant_of-self : goal.invariant_of-self
invariant_of-self g c = even_set _ _ c.self.invariant c.args.name _
