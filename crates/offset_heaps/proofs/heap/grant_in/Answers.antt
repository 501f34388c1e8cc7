use Rattle.std.proofs.Common.{subst}
use Rattle.std.proofs.lemmas.Bool.{false≢true}
use Rattle.offset_allocator.specs.{View.IsWellFormed, Requests.blocks_needed, Requests.units_needed}
use Rattle.offset_heaps.proofs.Rooms.{can}
use Rattle.offset_heaps.proofs.heap.grant_in.Goals as goal

pub unreachable-requires : goal.unreachable-requires
unreachable-requires g c =
    let known = subst IsWellFormed c.allocator.ensures c.is_well_formed.ensures in
    let room = rw c.in-Some.is at c.requires.room in
    false≢true (c.in-None-allocate_aligned.ensures.can_grant.1 (can (blocks_needed c.args.align) (units_needed c.args.size c.args.align) c.in-Some.heap known room))

pub unreachable-requires-in-None : goal.unreachable-requires-in-None
unreachable-requires-in-None g c = rw c.in-None.is at c.requires.room
