use Rattle.std.proofs.Common.{refl}
use Rattle.offset_heaps.specs.Calls.{Drop_empty, Dropped}
use Rattle.offset_heaps_tests.proofs.histories.drop_empty.Goals as goal

pub returns : goal.returns
returns c = c.alignments_are_kept.ensures.call (Drop_empty c.args.keep) c.args.heaps.now c.drop_empty.new.heaps (Dropped c.drop_empty.result) tt tt (c.drop_empty.result, refl, c.drop_empty.ensures)
