use Rattle.std.proofs.Common.{refl}
use Rattle.offset_guarded.proofs.Noted.{unaligned_noted}
use Rattle.offset_heaps_tests.proofs.one_heap.compact_unaligned.Goals as goal

pub returns : goal.returns
returns c =
    let a = c.compact_unaligned.ensures.change in
    let n = unaligned_noted _ _ _ a.before a.after a.by in
    (n.0, record { before = a.before; after = a.after; heap = a.heap; by = (refl, n.1); heaps = a.heaps })
