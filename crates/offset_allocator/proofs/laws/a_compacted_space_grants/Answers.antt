use Rattle.offset_allocator.proofs.Moving.Packed.{compacted_grants}
use Rattle.offset_allocator.proofs.laws.a_compacted_space_grants.Goals as goal

pub returns : goal.returns
returns g c v n some h = compacted_grants v c.args.allocator.now n c.formed.ensures some h
