use Rattle.std.proofs.Common.{refl}
use Rattle.offset_heaps.specs.Calls.{Resized, Shrink}
use Rattle.offset_heaps_tests.proofs.histories.shrink.Goals as goal

pub returns : goal.returns
returns c = c.alignments_are_kept.ensures.call (Shrink c.args.place c.args.size) c.args.heaps.now c.shrink.new.heaps (Resized c.shrink.result) tt tt (c.shrink.result, refl, c.shrink.ensures)
