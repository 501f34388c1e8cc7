use Rattle.offset_allocator.proofs.Arranging.Entries.{bound-newer, even_set, wrote-newer}
use Rattle.offset_allocator.proofs.layouts.by_node.ByNodeTables.set_newer.Goals as goal

pub returns-clause-cells : goal.returns-clause-cells
returns-clause-cells g c = wrote-newer _ _ _ c.self.view_is c.args.name c.index_mut.result.now c.args.link c.requires.name c.index_mut.ensures.value c.requires.idle c.requires.link

pub index_mut-requires : goal.index_mut-requires
index_mut-requires g c = bound-newer g.NI.NodeIndex.MAX g.NI.NodeIndex.number c.self.inside c.self.view_is c.args.name c.requires.name

pub invariant_of-self : goal.invariant_of-self
invariant_of-self g c = even_set _ _ c.self.invariant c.args.name _
