use Rattle.std.proofs.Common.{refl}
use Rattle.offset_guarded.proofs.Noted.{compacts_by_noted}
use Rattle.offset_heaps_tests.proofs.one_heap.compact_by.Goals as goal

pub returns : goal.returns
returns c =
    let a = c.compact_by.ensures.change in
    let n = compacts_by_noted _ _ _ c.args.step a.before a.after c.compact_by.result a.by in
    (n.0, record { before = a.before; after = a.after; heap = a.heap; by = (c.compact_by.result, refl, n.1); heaps = a.heaps })
