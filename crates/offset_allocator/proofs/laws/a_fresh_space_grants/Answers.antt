use Rattle.offset_allocator.proofs.Always.{fresh_grants}
use Rattle.offset_allocator.proofs.laws.a_fresh_space_grants.Goals as goal

pub returns : goal.returns
returns c size max_allocs n v f limit sized = fresh_grants size max_allocs n v f limit sized
