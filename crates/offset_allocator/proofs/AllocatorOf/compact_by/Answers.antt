use Rattle.offset_allocator.proofs.Moving.Unbounded.{all_within}
use Rattle.offset_allocator.proofs.Common.{◌≤◌, arith, ap, length, refl, View}
use Rattle.offset_allocator.proofs.AllocatorOf.compact_by.Goals as goal

pub returns : goal.returns
returns g c =
    let few : length c.args.self.now.blocks ≤ 4294967295 = omega (arith, c.self.invariant.space.full, ap (λ (u : View). length u.blocks) c.self.view_is, c.shape.ensures.within, c.shape.ensures.limit, c.shape.ensures.word) in
    let all = all_within c.args.step c.args.self.now c.formed.ensures few _ _ _ _ _ c.compact_within.ensures.step in
    record {
      live = c.compact_within.ensures.live;
      sizes = c.compact_within.ensures.sizes;
      moved = rw c.is_some.ensures all.1;
      accesses = (omega (arith, c.compact_within.ensures.accesses_all refl), omega (arith, c.compact_within.ensures.accesses.1));
      step = rw c.is_some.ensures all.0;
    }
