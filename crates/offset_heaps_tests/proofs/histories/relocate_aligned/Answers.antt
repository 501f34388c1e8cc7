use Rattle.std.proofs.Common.{arith, refl}
use Rattle.offset_heaps.specs.Calls.{Relocate_aligned, Second}
use Rattle.offset_heaps_tests.proofs.histories.relocate_aligned.Goals as goal

pub returns : goal.returns
returns c = c.alignments_are_kept.ensures.call (Relocate_aligned c.args.place 256) c.args.heaps.now c.relocate_aligned.new.heaps (Second c.relocate_aligned.result) (omega arith) tt (c.relocate_aligned.result, refl, c.relocate_aligned.ensures)
