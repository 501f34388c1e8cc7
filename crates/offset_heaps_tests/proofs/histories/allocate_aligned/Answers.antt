use Rattle.std.proofs.Common.{arith, refl}
use Rattle.offset_heaps.specs.Calls.{Allocate, Requested}
use Rattle.offset_heaps_tests.proofs.histories.allocate_aligned.Goals as goal

pub returns : goal.returns
returns c = c.alignments_are_kept.ensures.call (Allocate c.args.size 256) c.args.heaps.now c.allocate_aligned.new.heaps (Requested c.allocate_aligned.result) (omega arith) tt (c.allocate_aligned.result, refl, omega arith, c.allocate_aligned.ensures)
