use Rattle.std.proofs.Common.{refl}
use Rattle.offset_heaps.specs.Calls.{Nothing, Reset}
use Rattle.offset_heaps_tests.proofs.histories.reset.Goals as goal

pub returns : goal.returns
returns c = c.alignments_are_kept.ensures.call Reset c.args.heaps.now c.reset.new.heaps Nothing tt tt (refl, c.reset.ensures)
