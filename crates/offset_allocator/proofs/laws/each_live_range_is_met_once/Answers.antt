use Rattle.offset_allocator.proofs.Reporting.AlongLive.{all_met, backward, forward}
use Rattle.offset_allocator.proofs.laws.each_live_range_is_met_once.Goals as goal

pub returns : goal.returns
returns g c = record {
  forward = forward c.args.allocator.now c.formed.ensures;
  backward = backward c.args.allocator.now c.formed.ensures;
  all = all_met c.args.allocator.now c.formed.ensures;
}
