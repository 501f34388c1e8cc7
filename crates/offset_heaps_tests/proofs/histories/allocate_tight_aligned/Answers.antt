use Rattle.std.proofs.Common.{arith, refl}
use Rattle.offset_heaps.specs.Calls.{Allocate_tight, Requested}
use Rattle.offset_heaps_tests.proofs.histories.allocate_tight_aligned.Goals as goal

pub returns : goal.returns
returns c = c.alignments_are_kept.ensures.call (Allocate_tight c.args.size 256) c.args.heaps.now c.allocate_tight_aligned.new.heaps (Requested c.allocate_tight_aligned.result) (omega arith) tt (c.allocate_tight_aligned.result, refl, omega arith, c.allocate_tight_aligned.ensures)
