use Rattle.std.proofs.Common.{arith}
use Rattle.offset_heaps.proofs.Emptiest.{one_more}
use Rattle.offset_heaps.proofs.slots.Slots.emptiest.Goals as goal

pub loop-number-preserved : goal.loop-number-preserved
loop-number-preserved g c = record {
  so_far = one_more c.loop-number.number c.args.self.now c.loop-number.found c.with_live-found.result c.live_units_at-live.result c.live_units_at-live.ensures.live
      c.with_live-found.ensures c.loop-number.invariant.so_far;
  accesses = omega arith;
}
