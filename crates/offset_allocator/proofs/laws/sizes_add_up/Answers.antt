use Rattle.offset_allocator.proofs.Always.{adds_up}
use Rattle.offset_allocator.proofs.laws.sizes_add_up.Goals as goal

pub returns : goal.returns
returns g c = adds_up c.args.allocator.now c.formed.ensures
