use Rattle.offset_allocator.proofs.Holding.{tight_compacted, tight_fresh, tight_no_reason, tight_one_reason}
use Rattle.offset_allocator.proofs.laws.tight_refusals_advise.Goals as goal

pub returns : goal.returns
returns g c = record {
  compacted = λ n v room packs refuses. tight_compacted c.args.allocator.now c.formed.ensures n room v packs refuses;
  fresh = λ n v room made. tight_fresh c.args.allocator.now c.formed.ensures n room v made;
  one = λ n align r s a b. tight_one_reason c.args.allocator.now c.formed.ensures n align r s a b;
  none = λ n align r a h. tight_no_reason c.args.allocator.now c.formed.ensures n align r a h;
}
