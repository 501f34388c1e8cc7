use Rattle.offset_calls.proofs.{Kept.numbers_begin, Reached.reached_fresh}
use Rattle.offset_calls.proofs.player.CallPlayerOf.start.Goals as goal

pub invariant_of-result : goal.invariant_of-result
invariant_of-result g c = (
  reached_fresh c.in_ok-player.player.space _ c.args.size c.args.max_allocs c.is_well_formed.ensures c.requires.low c.in_ok-player.ensures.fresh.0 c.in_ok-player.ensures.fresh.1,
  numbers_begin _ _ _ c.in_ok-player.ensures.fresh.1 c.new.ensures.grants,
)
