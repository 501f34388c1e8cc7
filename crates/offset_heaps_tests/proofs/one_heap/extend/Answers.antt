use Rattle.std.proofs.Common.{[], refl}
use Rattle.offset_guarded.specs.Answers as tickets
use Rattle.offset_heaps_tests.proofs.Steps.{part_of}
use Rattle.offset_heaps_tests.proofs.one_heap.extend.Goals as goal

pub returns-clause-call : goal.returns-clause-call
returns-clause-call c = part_of _ _ _ _ _ (λ g h p. (c.extend.result, refl, p, refl)) c.extend.ensures.change

pub returns-clause-step : goal.returns-clause-step
returns-clause-step c = c.alignments_are_kept.ensures.answered_on_heap _ (tickets.Call.Extend c.args.more) (tickets.Answer.Was_done c.extend.result) [] _ _ (returns-clause-call c) (λ g e. tt {0})
