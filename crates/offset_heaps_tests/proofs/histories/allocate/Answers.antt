use Rattle.std.proofs.Common.{arith, refl}
use Rattle.offset_heaps.specs.Calls.{Allocate, Requested}
use Rattle.offset_heaps_tests.proofs.histories.allocate.Goals as goal

pub returns : goal.returns
returns c = c.alignments_are_kept.ensures.call (Allocate c.args.size 1) c.args.heaps.now c.allocate.new.heaps (Requested c.allocate.result) (omega arith) tt (c.allocate.result, refl, omega arith, c.allocate.ensures)
