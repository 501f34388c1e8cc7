use Rattle.std.proofs.Common.{arith, refl}
use Rattle.offset_heaps.specs.Calls.{Make_room, Room_made}
use Rattle.offset_heaps_tests.proofs.histories.make_room_aligned.Goals as goal

pub returns : goal.returns
returns c = c.alignments_are_kept.ensures.call (Make_room c.args.number c.args.size 256) c.args.heaps.now c.make_room_aligned.new.heaps (Room_made c.make_room_aligned.result) (omega arith) tt (c.make_room_aligned.result, refl, c.make_room_aligned.ensures)
