use Rattle.offset_allocator.proofs.Moving.Done.{few_after, last_after, steps_grant}
use Rattle.offset_allocator.proofs.laws.a_space_compacted_by_steps_grants.Goals as goal

pub returns : goal.returns
returns g c = record {
  few = λ s v front last some h is. few_after s some v c.args.allocator.now h front last is;
  last = λ s v some more h. last_after s some v c.args.allocator.now more h;
  granted = λ s n v some one more h. steps_grant s some v c.args.allocator.now n c.formed.ensures one more h;
}
