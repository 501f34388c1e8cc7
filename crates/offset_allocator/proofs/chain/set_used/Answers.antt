use Rattle.offset_allocator.proofs.{Common.ap, Common.Cells, Common.refl, Filing.Uses.binned_marked, Linking.Writes.mark_place, Linking.Nodes.spare-put}
use Rattle.offset_allocator.proofs.chain.set_used.Goals as goal

pub returns-clause-place : goal.returns-clause-place
returns-clause-place g c m last spare p h = mark_place h (ap (λ (v : Cells). v.chain) c.set_used.ensures.cells)

pub returns-clause-bins : goal.returns-clause-bins
returns-clause-bins g c top fresh held = binned_marked c.args.name _ held fresh (ap (λ (v : Cells). v.bins) c.set_used.ensures.cells)

pub returns-clause-spare : goal.returns-clause-spare
returns-clause-spare g c = rw (c.set_used.ensures.cells, spare-put) refl
