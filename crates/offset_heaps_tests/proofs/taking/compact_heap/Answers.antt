use Rattle.std.proofs.Common.{ap, refl}
use Rattle.offset_guarded.specs.Answers as tickets
use Rattle.offset_guarded.proofs.Noted.{compacts_noted}
use Rattle.offset_heaps_tests.proofs.taking.compact_heap.Goals as goal

pub returns : goal.returns
returns c =
    let is = c.compact_heap.ensures in
    record {
      none = λ e. ((is.none e).0, ap tickets.Answer.Was_done (is.none e).2);
      step = λ some.
          let a = is.step some in
          let n = compacts_noted _ _ _ a.before a.after c.compact_heap.result a.by in
          (n.0, record { before = a.before; after = a.after; heap = a.heap; by = (c.compact_heap.result, refl, n.1); heaps = a.heaps });
    }
