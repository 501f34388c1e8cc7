use Rattle.std.proofs.Common.{◌<◌, length, arith}
use Rattle.offset_heaps.proofs.Sums.{totals_more}
use Rattle.offset_heaps.proofs.HeapsOf.totals.Goals as goal

pub loop-number-preserved : goal.loop-number-preserved
loop-number-preserved g c =
    let w = c.with_heap-totals.ensures in
    let all = c.self.invariant.numbers in
    let there : c.loop-number.number < length c.self.inside.slots = omega arith in
    record {
      so_far = totals_more c.self.inside.limits c.self.inside.slots c.loop-number.number c.loop-number.totals c.with_heap-totals.result _ c.at-heap.ensures.heap there c.loop-number.invariant.so_far w.heaps
          w.units w.live w.free w.largest;
      few = omega arith;
      small = omega arith;
      add_up = w.add_up;
    }
