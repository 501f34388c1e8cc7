use Rattle.offset_allocator.proofs.Advice.{compacted, fresh, one_reason, no_reason}
use Rattle.offset_allocator.proofs.laws.refusals_advise.Goals as goal

pub returns : goal.returns
returns g c = record {
  compacted = λ blocks units v room none packs. compacted c.args.allocator.now c.formed.ensures blocks units room v packs none;
  fresh = λ blocks units v room made. fresh c.args.allocator.now c.formed.ensures blocks units room v made;
  one = λ blocks units r s a b. one_reason c.args.allocator.now c.formed.ensures blocks units r s a b;
  none = no_reason c.args.allocator.now c.formed.ensures;
}
