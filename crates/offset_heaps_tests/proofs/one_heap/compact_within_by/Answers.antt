use Rattle.std.proofs.Common.{refl}
use Rattle.offset_guarded.proofs.Noted.{compacts_within_by_noted}
use Rattle.offset_heaps_tests.proofs.one_heap.compact_within_by.Goals as goal

pub returns : goal.returns
returns c =
    let a = c.compact_within_by.ensures.change in
    let n = compacts_within_by_noted _ _ _ c.args.step c.args.from c.args.units c.args.ranges a.before a.after c.compact_within_by.result a.by in
    (n.0, record { before = a.before; after = a.after; heap = a.heap; by = (c.compact_within_by.result, refl, n.1); heaps = a.heaps })
