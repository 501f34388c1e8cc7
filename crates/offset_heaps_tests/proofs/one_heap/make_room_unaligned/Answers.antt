use Rattle.std.proofs.Common.{refl}
use Rattle.offset_guarded.proofs.Noted.{makes_room_unaligned_noted}
use Rattle.offset_heaps_tests.proofs.one_heap.make_room_unaligned.Goals as goal

pub returns : goal.returns
returns c =
    let a = c.make_room_unaligned.ensures.change in
    let n = makes_room_unaligned_noted _ _ _ c.args.size a.before a.after c.make_room_unaligned.result a.by in
    (n.0, record { before = a.before; after = a.after; heap = a.heap; by = (c.make_room_unaligned.result, refl, n.1); heaps = a.heaps })
