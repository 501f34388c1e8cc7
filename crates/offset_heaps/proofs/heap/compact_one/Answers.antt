use Rattle.offset_heaps.proofs.Compacted.{compacts, done_is}
use Rattle.offset_heaps.proofs.heap.compact_one.Goals as goal

pub returns-clause-done : goal.returns-clause-done
returns-clause-done g c = done_is c.args.heap.now c.compact.new.self c.compact.result c.compact.ensures.step c.compact.ensures.none

pub returns-clause-change : goal.returns-clause-change
returns-clause-change g c =
    let done = done_is c.args.heap.now c.compact.new.self c.compact.result c.compact.ensures.step c.compact.ensures.none in
    compacts c.args.heap.now c.compact.new.self c.compact.result done c.compact.ensures.step c.compact.ensures.none c.compact.ensures.serials c.compact.ensures.sizes c.compact.ensures.aligned
    c.compact.ensures.accesses_max

pub returns-clause-moved : goal.returns-clause-moved
returns-clause-moved g c =
    let done = done_is c.args.heap.now c.compact.new.self c.compact.result c.compact.ensures.step c.compact.ensures.none in
    rw (← done) c.compact.ensures.moved
