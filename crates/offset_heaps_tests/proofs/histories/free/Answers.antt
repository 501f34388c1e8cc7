use Rattle.std.proofs.Common.{refl}
use Rattle.offset_heaps.specs.Calls.{Free, Was_done}
use Rattle.offset_heaps_tests.proofs.histories.free.Goals as goal

pub returns : goal.returns
returns c = c.alignments_are_kept.ensures.call (Free c.args.place) c.args.heaps.now c.free.new.heaps (Was_done c.free.result) tt tt (c.free.result, refl, c.free.ensures)
