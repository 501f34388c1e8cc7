use Rattle.std.proofs.Common.{refl}
use Rattle.offset_heaps.specs.Calls.{Retract_heap, Was_done}
use Rattle.offset_heaps_tests.proofs.one_heap.retract.Goals as goal

pub returns-clause-call : goal.returns-clause-call
returns-clause-call c = (c.retract.result, refl, c.retract.ensures.change)

pub returns-clause-step : goal.returns-clause-step
returns-clause-step c =
    c.alignments_are_kept.ensures.call (Retract_heap c.args.heap.now.number c.args.less) c.args.heap.now.heaps.now c.retract.new.self.heaps.now (Was_done c.retract.result) tt tt (returns-clause-call c)
