use Rattle.std.proofs.Common.{refl}
use Rattle.offset_guarded.specs.Answers as tickets
use Rattle.offset_guarded.proofs.Noted.{compacts_noted}
use Rattle.offset_heaps_tests.proofs.one_heap.compact.Goals as goal

pub returns-clause-call : goal.returns-clause-call
returns-clause-call c =
    let a = c.compact.ensures.change in
    let n = compacts_noted _ _ _ a.before a.after c.compact.result a.by in
    (n.0, record { before = a.before; after = a.after; heap = a.heap; by = (c.compact.result, refl, n.1); heaps = a.heaps })

pub returns-clause-step : goal.returns-clause-step
returns-clause-step c = let call = returns-clause-call c in c.alignments_are_kept.ensures.answered_on_heap _ tickets.Call.Compact (tickets.Answer.Was_done c.compact.result) call.0 _ _ call.1 (λ g e. tt {0})
