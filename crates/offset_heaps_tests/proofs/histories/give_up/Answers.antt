use Rattle.std.proofs.Common.{refl}
use Rattle.offset_heaps.specs.Calls.{Give_up, Was_done}
use Rattle.offset_heaps_tests.proofs.histories.give_up.Goals as goal

pub returns : goal.returns
returns c = c.alignments_are_kept.ensures.call (Give_up c.args.number) c.args.heaps.now c.give_up.new.heaps (Was_done c.give_up.result) tt tt (c.give_up.result, refl, c.give_up.ensures)
