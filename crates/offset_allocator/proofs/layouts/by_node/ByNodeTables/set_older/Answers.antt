use Rattle.offset_allocator.proofs.Arranging.Entries.{bound-older, even_set, wrote-older}
use Rattle.offset_allocator.proofs.layouts.by_node.ByNodeTables.set_older.Goals as goal

pub returns-clause-cells : goal.returns-clause-cells
returns-clause-cells g c = wrote-older _ _ _ c.self.view_is c.args.name c.index_mut.result.now c.args.link c.requires c.index_mut.ensures.value

pub index_mut-requires : goal.index_mut-requires
index_mut-requires g c = bound-older g.NI.NodeIndex.MAX g.NI.NodeIndex.number c.self.inside c.self.view_is c.args.name c.requires

pub invariant_of-self : goal.invariant_of-self
invariant_of-self g c = even_set _ _ c.self.invariant c.args.name _
