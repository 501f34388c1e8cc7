use Rattle.offset_allocator.proofs.{AtOffset.at_decided, Decided.allocates_decided, Decided.aligns_decided, Decided.relocates_decided, Decided.relocates_aligned_decided, Decided.tight_decided, Moving.DecidedRooms.least_decided}
use Rattle.offset_allocator.proofs.{Moving.DecidedRooms.noted_decided, Moving.DecidedSteps.compacts_by_decided}
use Rattle.offset_allocator.proofs.{Moving.DecidedRooms.least_by_decided, Moving.DecidedRoomsBySteps.noted_by_decided}
use Rattle.offset_allocator.proofs.DecidedChanges.{compacts_decided, extends_decided, frees_decided, grows_decided, resets_decided, retracts_decided, shrinks_decided}
use Rattle.offset_allocator.proofs.Moving.DecidedBudget.{within_decided}
use Rattle.offset_allocator.proofs.laws.a_state_decides_each_step.Goals as goal

pub returns : goal.returns
returns c = record {
  allocate = allocates_decided;
  allocate_aligned = aligns_decided;
  allocate_tight = tight_decided;
  allocate_at = at_decided;
  relocate = relocates_decided;
  relocate_aligned = relocates_aligned_decided;
  free = frees_decided;
  reset = resets_decided;
  extend = extends_decided;
  retract = retracts_decided;
  shrink = shrinks_decided;
  grow = grows_decided;
  compact = compacts_decided;
  compact_by = compacts_by_decided;
  room_cost = least_decided;
  room_cost_by = least_by_decided;
  make_room = noted_decided;
  make_room_by = noted_by_decided;
  compact_within = within_decided;
}
