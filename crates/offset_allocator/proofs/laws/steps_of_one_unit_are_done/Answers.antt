use Rattle.offset_allocator.proofs.Common.{[]}
use Rattle.offset_allocator.proofs.Moving.{DecidedRooms.Notes, Passes.units_done, Passes.units_within}
use Rattle.offset_allocator.proofs.laws.steps_of_one_unit_are_done.Goals as goal

pub returns : goal.returns
returns c = record { compact_by = λ v w h. units_done v w h; compact_within = λ from u n v w ms known h. units_within Notes from u n v w [] ms known h }
