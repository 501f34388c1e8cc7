use Rattle.std.proofs.Common.{refl}
use Rattle.offset_heaps.specs.Calls.{Grow_in_place, Resized}
use Rattle.offset_heaps_tests.proofs.histories.grow_in_place.Goals as goal

pub returns : goal.returns
returns c = c.alignments_are_kept.ensures.call (Grow_in_place c.args.place c.args.size) c.args.heaps.now c.grow_in_place.new.heaps (Resized c.grow_in_place.result) tt tt (c.grow_in_place.result, refl, c.grow_in_place.ensures)
