use Rattle.offset_allocator.proofs.{AtOffset.free_where_clear}
use Rattle.offset_allocator.proofs.laws.units_are_free_or_in_the_way.Goals as goal

pub returns : goal.returns
returns g c offset n some within = free_where_clear offset n c.args.allocator.now c.formed.ensures some within
