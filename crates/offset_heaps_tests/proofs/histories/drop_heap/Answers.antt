use Rattle.std.proofs.Common.{refl}
use Rattle.offset_heaps.specs.Calls.{Drop_heap, Was_done}
use Rattle.offset_heaps_tests.proofs.histories.drop_heap.Goals as goal

pub returns : goal.returns
returns c = c.alignments_are_kept.ensures.call (Drop_heap c.args.number) c.args.heaps.now c.drop_heap.new.heaps (Was_done c.drop_heap.result) tt tt (c.drop_heap.result, refl, c.drop_heap.ensures)
