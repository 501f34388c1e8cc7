use Rattle.std.proofs.Common.{arith}
use Rattle.offset_heaps.proofs.Doubling.{class_small}
use Rattle.offset_heaps.proofs.limits.usual_room.Goals as goal

pub float_to_uint-requires : goal.float_to_uint-requires
float_to_uint-requires c =
    let small = class_small c.usual_size.result (omega arith) in
    let is = c.uint_to_float_round_down-class.ensures.is in
    omega (arith, small, is)
