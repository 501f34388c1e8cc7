use Rattle.offset_heaps.proofs.heap.compact_numbered_in.Goals as goal

pub returns-in-Some-clause-moved : goal.returns-in-Some-clause-moved
returns-in-Some-clause-moved g c = rw c.in-Some.is c.compact_numbered.ensures.moved
