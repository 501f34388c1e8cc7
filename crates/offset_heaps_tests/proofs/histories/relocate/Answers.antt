use Rattle.std.proofs.Common.{refl}
use Rattle.offset_heaps.specs.Calls.{Relocate, Second}
use Rattle.offset_heaps_tests.proofs.histories.relocate.Goals as goal

pub returns : goal.returns
returns c = c.alignments_are_kept.ensures.call (Relocate c.args.place) c.args.heaps.now c.relocate.new.heaps (Second c.relocate.result) tt tt (c.relocate.result, refl, c.relocate.ensures)
