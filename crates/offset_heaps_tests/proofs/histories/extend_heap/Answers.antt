use Rattle.std.proofs.Common.{refl}
use Rattle.offset_heaps.specs.Calls.{Extend_heap, Extended}
use Rattle.offset_heaps_tests.proofs.histories.extend_heap.Goals as goal

pub returns : goal.returns
returns c = c.alignments_are_kept.ensures.call (Extend_heap c.args.number c.args.more) c.args.heaps.now c.extend_heap.new.heaps (Extended c.extend_heap.result) tt tt (c.extend_heap.result, refl, c.extend_heap.ensures)
