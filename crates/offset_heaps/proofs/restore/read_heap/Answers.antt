use Rattle.std.proofs.Common.{arith}
use Rattle.offset_heaps.proofs.OneHeap.{heap_fault, heap_read, heap_refused}
use Rattle.offset_heaps.proofs.restore.read_heap.Goals as goal

pub returns-then-not-is_of_kind-clause-fault : goal.returns-then-not-is_of_kind-clause-fault
returns-then-not-is_of_kind-clause-fault g c =
    let is = c.in-Ok.ensures in
    let below = c.if-realm-made.false in
    heap_fault c.args.limits g.T.Index.NodeIndex.MAX c.args.made c.args.most_allocs c.args.number c.args.bytes.now c.in-Ok.heap is.read is.formed c.a_state_is_read_back.ensures.admitted
    (omega (arith, below, c.realm.ensures)) (λ kind. let yes = c.is_of_kind.ensures.1 kind in let no = c.if-not-is_of_kind.true in cc)

pub returns-then-not-is_of_kind-clause-refused : goal.returns-then-not-is_of_kind-clause-refused
returns-then-not-is_of_kind-clause-refused g c _ o formed admitted state =
    let is = c.in-Ok.ensures in
    heap_refused c.args.limits g.T.Index.NodeIndex.MAX c.args.made c.args.most_allocs c.args.number c.args.bytes.now c.in-Ok.heap is.read is.formed
    (λ h well own. c.a_state_is_read_back.ensures.one c.in-Ok.heap h c.args.bytes.now is.formed well is.read.0 own)
    (λ kind. let yes = c.is_of_kind.ensures.1 kind in let no = c.if-not-is_of_kind.true in cc) o formed state

pub returns-clause-read : goal.returns-clause-read
returns-clause-read g c =
    let is = c.in-Ok.ensures in
    let below = c.if-realm-made.false in
    heap_read c.args.limits g.T.Index.NodeIndex.MAX c.args.made c.args.most_allocs c.args.number c.args.bytes.now c.in-Ok.heap is.read is.formed c.a_state_is_read_back.ensures.admitted
    (omega (arith, below, c.realm.ensures)) (c.is_of_kind.ensures.0 c.if-not-is_of_kind.false)
