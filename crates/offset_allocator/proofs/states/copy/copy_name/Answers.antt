use Rattle.offset_allocator.proofs.{Common.ap, Common.arith, Common.length, Saving.Alike.filled_alike, Saving.Alike.filled_others}
use Rattle.offset_allocator.proofs.states.copy.copy_name.Goals as goal

pub set_spare-requires : goal.set_spare-requires
set_spare-requires g c = omega (arith, c.requires.named, c.requires.even, c.shape-2.ensures.spare, ap length c.copy_node.ensures.spare)

pub returns-clause-alike : goal.returns-clause-alike
returns-clause-alike g c = filled_alike c.copy_node.ensures c.shape-2.ensures (omega (arith, c.requires.named, c.requires.even)) _ c.spare-spare.ensures.cell c.set_spare.ensures.cells

pub returns-clause-others : goal.returns-clause-others
returns-clause-others g c = filled_others c.copy_node.ensures c.shape-2.ensures (omega (arith, c.requires.named, c.requires.even)) _ c.spare-spare.ensures.cell c.set_spare.ensures.cells
