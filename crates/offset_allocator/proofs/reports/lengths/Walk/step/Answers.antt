use Rattle.offset_allocator.proofs.{Common.arith, Linking.Walks.tail_next}
use Rattle.offset_allocator.proofs.reports.lengths.Walk.step.Goals as goal

pub returns-then-self-MAX-clause-tail : goal.returns-then-self-MAX-clause-tail
returns-then-self-MAX-clause-tail g c total t = grind (arith, tail_next)
