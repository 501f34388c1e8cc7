use Rattle.offset_allocator.proofs.Always.{no_neighbours}
use Rattle.offset_allocator.proofs.laws.no_free_neighbours.Goals as goal

pub returns : goal.returns
returns g c = no_neighbours c.args.allocator.now c.formed.ensures
