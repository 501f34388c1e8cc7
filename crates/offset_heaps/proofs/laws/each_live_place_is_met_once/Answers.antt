use Rattle.offset_heaps.proofs.EachOnce.{all_met, all_once}
use Rattle.offset_heaps.proofs.laws.each_live_place_is_met_once.Goals as goal

pub returns-clause-walk : goal.returns-clause-walk
returns-clause-walk g c = all_met c.args.heaps.now c.a_state_is_read_back.ensures.formed

pub returns-clause-once : goal.returns-clause-once
returns-clause-once g c = all_once c.args.heaps.now c.a_state_is_read_back.ensures.formed
