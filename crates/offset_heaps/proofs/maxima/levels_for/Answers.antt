use Rattle.std.proofs.{Common.◌+◌, Common.◌^◌, Common.◌≤◌, Common.arith, Math.Pow.pow_mono}
use Rattle.std.proofs.lemmas.Grind.{pow_more}
use Rattle.offset_heaps.proofs.Trees.{one_more}
use Rattle.offset_heaps.proofs.maxima.levels_for.Goals as goal

pub loop-height-preserved : goal.loop-height-preserved
loop-height-preserved c =
    let next = pow_more 2 c.loop-height.height in
    let power = c.loop-height.invariant.power in
    let low : c.loop-height.height + 1 ≤ 32 = omega arith in
    let small : 2 ^ (c.loop-height.height + 1) ≤ 2 ^ 32 = pow_mono low in
    record {
      power = omega arith;
      low = low;
      small = omega arith;
      least = one_more c.loop-height.height c.loop-height.places c.args.count power c.if-places-count.true c.loop-height.invariant.least;
    }
