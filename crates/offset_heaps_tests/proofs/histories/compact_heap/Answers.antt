use Rattle.std.proofs.Common.{refl}
use Rattle.offset_heaps.specs.Calls.{Compact_heap, Was_done}
use Rattle.offset_heaps_tests.proofs.histories.compact_heap.Goals as goal

pub returns : goal.returns
returns c = c.alignments_are_kept.ensures.call (Compact_heap c.args.number) c.args.heaps.now c.compact_heap.new.heaps (Was_done c.compact_heap.result) tt tt (c.compact_heap.result, refl, c.compact_heap.ensures)
