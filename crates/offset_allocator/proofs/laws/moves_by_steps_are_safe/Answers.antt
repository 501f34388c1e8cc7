use Rattle.offset_allocator.proofs.Common.{◌++◌, ap, arith, refl, units}
use Rattle.offset_allocator.proofs.Tallies.{units-append}
use Rattle.offset_allocator.proofs.Moving.Stepped.{safe_by, between_by, rests_by, aligned_by}
use Rattle.offset_allocator.proofs.laws.moves_by_steps_are_safe.Goals as goal

pub returns : goal.returns
returns c = record {
  safe = λ s bs. safe_by s 0 0 bs (omega arith);
  within = λ s v w. between_by s 0 v.size 0 0 v.blocks (omega arith) (omega arith) (omega (arith, w.whole));
  steps = λ s bs. rests_by s 0 0 bs refl;
  aligned = λ align k bs. aligned_by align k 0 0 bs refl;
  make_room_by = λ s front run. safe_by s (units front) (units front) run (omega arith);
  make_room_by_within = λ s v front run back w e. (
    between_by s (units front) (units (front ++ run)) (units front) (units front) run (omega arith) (omega arith) (omega (arith, units-append front run)),
    omega (arith, w.whole, ap units e, units-append front (run ++ back), units-append front run, units-append run back),
  );
  make_room_by_steps = λ s front run. rests_by s (units front) (units front) run refl;
  make_room_by_aligned = λ align k front run. aligned_by align k (units front) (units front) run refl;
}
