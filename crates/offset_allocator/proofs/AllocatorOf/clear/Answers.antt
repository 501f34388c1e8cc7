use Rattle.offset_allocator.proofs.Common.{length, refl, ap, subst, arith, View, view_of, Resets}
use Rattle.offset_allocator.proofs.AllocatorOf.clear.Goals as goal

pub returns-clause-step : goal.returns-clause-step
returns-clause-step g c =
    let left : View = view_of g.T.Index.NodeIndex.MAX c.self.inside.size c.self.inside.max_allocs (g.T.Tables.cells c.start.new.store.tables) 0 0 c.start.new.store.accesses in
    subst (λ (v : View). Resets v left) c.self.view_is (record {
      name = 0;
      below = omega (arith, c.self.invariant.well.room);
      few = λ l. absurd (omega (arith, l, c.requires, ap (λ (u : View). length u.blocks) c.self.view_is));
      many = λ _. (refl, refl);
      view = ap (λ (v : View). record v { accesses = c.start.new.store.accesses }) c.start.ensures.view;
    })
