use Rattle.std.proofs.Common.{ap, refl}
use Rattle.offset_guarded.specs.Answers as tickets
use Rattle.offset_guarded.proofs.Noted.{makes_room_noted}
use Rattle.offset_heaps_tests.proofs.taking.make_room.Goals as goal

pub returns : goal.returns
returns c =
    let is = c.make_room.ensures in
    record {
      none = λ e. ((is.none e).0, ap tickets.Answer.Room_made (is.none e).2);
      step = λ some.
          let a = is.step some in
          let n = makes_room_noted _ _ _ c.args.size 1 a.before a.after c.make_room.result a.by in
          (n.0, record { before = a.before; after = a.after; heap = a.heap; by = (c.make_room.result, refl, n.1); heaps = a.heaps });
    }
