use Rattle.std.proofs.Common.{refl}
use Rattle.offset_guarded.specs.Answers as tickets
use Rattle.offset_guarded.proofs.Noted.{makes_room_noted}
use Rattle.offset_heaps_tests.proofs.one_heap.make_room.Goals as goal

pub returns-clause-call : goal.returns-clause-call
returns-clause-call c =
    let a = c.make_room.ensures.change in
    let n = makes_room_noted _ _ _ c.args.size 1 a.before a.after c.make_room.result a.by in
    (n.0, record { before = a.before; after = a.after; heap = a.heap; by = (c.make_room.result, refl, n.1); heaps = a.heaps })

pub returns-clause-step : goal.returns-clause-step
returns-clause-step c = let call = returns-clause-call c in c.alignments_are_kept.ensures.answered_on_heap _ (tickets.Call.Make_room c.args.size 1) (tickets.Answer.Room_made c.make_room.result) call.0 _ _ call.1 (λ g e. tt {0})
