use Rattle.offset_allocator.proofs.Fresh.{fresh_binned}
use Rattle.offset_allocator.proofs.bins.empty_mask.Goals as goal

pub returns-clause-binned : goal.returns-clause-binned
returns-clause-binned g c = (fresh_binned c.shape.ensures c.requires.empty).0

pub returns-clause-lists : goal.returns-clause-lists
returns-clause-lists g c = (fresh_binned c.shape.ensures c.requires.empty).1
