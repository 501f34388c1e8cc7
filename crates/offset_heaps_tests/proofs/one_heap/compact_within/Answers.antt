use Rattle.std.proofs.Common.{refl}
use Rattle.offset_guarded.specs.Answers as tickets
use Rattle.offset_guarded.proofs.Noted.{compacts_within_noted}
use Rattle.offset_heaps_tests.proofs.one_heap.compact_within.Goals as goal

pub returns-clause-call : goal.returns-clause-call
returns-clause-call c =
    let a = c.compact_within.ensures.change in
    let n = compacts_within_noted _ _ _ c.args.from c.args.units c.args.ranges a.before a.after c.compact_within.result a.by in
    (n.0, record { before = a.before; after = a.after; heap = a.heap; by = (c.compact_within.result, refl, n.1); heaps = a.heaps })

pub returns-clause-step : goal.returns-clause-step
returns-clause-step c = let call = returns-clause-call c in c.alignments_are_kept.ensures.answered_on_heap _ (tickets.Call.Compact_within c.args.from c.args.units c.args.ranges) (tickets.Answer.Progressed c.compact_within.result) call.0 _ _ call.1 (λ g e. tt {0})
