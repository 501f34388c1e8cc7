use Rattle.offset_allocator.proofs.{Common.ap, Common.Cells, Common.refl, Linking.Writes.trim_place, Linking.Nodes.spare-put}
use Rattle.offset_allocator.proofs.chain.trim.Goals as goal

pub returns-clause-place : goal.returns-clause-place
returns-clause-place g c m spare before b h small = trim_place c.args.size h small (ap (λ (v : Cells). v.chain) c.set_size.ensures.cells)

pub returns-clause-spare : goal.returns-clause-spare
returns-clause-spare g c = rw (c.set_size.ensures.cells, spare-put) refl
