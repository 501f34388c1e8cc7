use Rattle.offset_allocator.proofs.{Filing.Binned.below, Classes.down_small}
use Rattle.offset_allocator.proofs.bins.remove.Goals as goal

pub newer-newer-requires : goal.newer-newer-requires
newer-newer-requires g c = below c.requires.binned.linked _ (down_small c.args.size) _ c.requires.listed
