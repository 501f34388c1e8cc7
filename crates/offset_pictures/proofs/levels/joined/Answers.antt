use Rattle.std.proofs.Common.{◌<◌, subst, sym}
use Rattle.offset_allocator.proofs.Classes.{down_small}
use Rattle.offset_pictures.proofs.levels.joined.Goals as goal

pub float_to_uint-requires : goal.float_to_uint-requires
float_to_uint-requires c = subst (λ n. n < 256) (sym c.uint_to_float_round_down.ensures.is) (down_small c.args.units)
