use Rattle.offset_allocator.proofs.{Common.refl, Linking.Nodes.length-put}
use Rattle.offset_allocator.proofs.chain.point_back.Goals as goal

pub returns-in-Some-clause-nodes : goal.returns-in-Some-clause-nodes
returns-in-Some-clause-nodes g c = rw (c.set_before.ensures.cells, length-put) refl
