use Rattle.std.proofs.Common.{[], refl}
use Rattle.offset_guarded.specs.Answers as tickets
use Rattle.offset_heaps_tests.proofs.Steps.{part_of}
use Rattle.offset_heaps_tests.proofs.one_heap.allocate_tight_aligned.Goals as goal

pub returns-clause-call : goal.returns-clause-call
returns-clause-call c = part_of _ _ _ _ _ (λ g h p. (c.allocate_tight_aligned.result, refl, p, refl)) c.allocate_tight_aligned.ensures.change

pub returns-clause-step : goal.returns-clause-step
returns-clause-step c = c.alignments_are_kept.ensures.answered_on_heap _ (tickets.Call.Allocate_tight_aligned c.args.size c.args.align) (tickets.Answer.Requested c.allocate_tight_aligned.result) [] _ _ (returns-clause-call c) (λ g e. tt {0})
