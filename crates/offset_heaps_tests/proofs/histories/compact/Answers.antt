use Rattle.std.proofs.Common.{refl}
use Rattle.offset_heaps.specs.Calls.{Compact_all, Was_done}
use Rattle.offset_heaps_tests.proofs.histories.compact.Goals as goal

pub returns : goal.returns
returns c = c.alignments_are_kept.ensures.call Compact_all c.args.heaps.now c.compact.new.heaps (Was_done c.compact.result) tt tt (c.compact.result, refl, c.compact.ensures)
