use Rattle.std.proofs.Common.{refl, subst}
use Rattle.std.proofs.lemmas.Bool.{false≢true}
use Rattle.offset_allocator.specs.{Requests.blocks_needed, Requests.units_needed, View.IsWellFormed}
use Rattle.offset_heaps.proofs.Rooms.{can}
use Rattle.offset_heaps.proofs.heap.grant_first_in.Goals as goal

pub returns : goal.returns
returns g c =
    record { before = c.in-Some.heap; after = c.raise_step.new.self; was = c.in-Some.is; is = refl; by = (c.allocate_aligned.new.self, c.in-Some-allocate_aligned.ensures, c.raise_step.ensures) }

pub unreachable-requires : goal.unreachable-requires
unreachable-requires g c =
    let known = subst IsWellFormed c.allocator.ensures c.is_well_formed.ensures in
    let room = rw c.in-Some.is at c.requires.room in
    false≢true (c.in-None-allocate_aligned.ensures.can_grant.1 (can (blocks_needed 1) (units_needed c.args.size 1) c.in-Some.heap known room))

pub unreachable-requires-in-None : goal.unreachable-requires-in-None
unreachable-requires-in-None g c = rw c.in-None.is at c.requires.room
