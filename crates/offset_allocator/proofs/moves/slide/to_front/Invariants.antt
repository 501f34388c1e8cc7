use Rattle.offset_allocator.proofs.Common.{◌≡◌, ◌≤◌, ℕ, ◌+◌, ◌-◌, ◌*◌, ◌++◌, List, length, true, false, Block, HasPlace, IsCalledWith, IsBinned, bins_in, link_of}
use Rattle.offset_allocator.proofs.Moving.Stepping.{IsStepping}
use Rattle.offset_allocator.specs.{Moving.BySteps.AreFiled, Moving.BySteps.EndsAt, Store.unused_of}
use Rattle.offset_allocator.proofs.moves.slide.to_front.Given as goal

abbrev pub invariant-loop-at : goal.invariant-loop-at
invariant-loop-at g l = record {
  callable : goal.F-IsAlwaysCallable g l.moved;
  binned : IsBinned g.T.Index.NodeIndex.MAX (g.T.Tables.cells l.store.tables).bins l.store.top_mask;
  name : l.gap.name ≡ l.name;
  grows : l.initial.store.accesses ≤ l.store.accesses;
  same : l.filed ≡ false → bins_in g.T.Index.NodeIndex.MAX (g.T.Tables.cells l.store.tables).bins ≡ bins_in g.T.Index.NodeIndex.MAX (g.T.Tables.cells l.initial.store.tables).bins;
  at : (m : ℕ) (front : List Block) (b : Block) (run back : List Block) (ls₀ : List (List ℕ))
      → HasPlace (g.T.Tables.cells l.initial.store.tables).chain m l.initial.store.last l.initial.store.spare_count l.name (record { before = front; block = b; after = run ++ back })
      → b.used ≡ false → EndsAt l.end run back → AreFiled l.filed (front ++ (run ++ back)) ls₀ (bins_in g.T.Index.NodeIndex.MAX (g.T.Tables.cells l.initial.store.tables).bins)
      → (ls : List (List ℕ)) × (length ls ≡ 256) × (l.filed ≡ true → bins_in g.T.Index.NodeIndex.MAX (g.T.Tables.cells l.store.tables).bins ≡ ls)
      × IsStepping (IsCalledWith g.T.Index.NonMax.NodeIndexNonMax.number (λ f range h. goal.F-step g f range tt h)) l.step b.size l.filed front run back l.end l.initial.moved l.initial.store.accesses
      g.T.Index.NodeIndex.MAX g.T.Index.NodeIndex.number (g.T.Tables.cells l.store.tables).chain m l.store.last l.store.spare_count l.gap
      l.at (link_of g.T.Index.NodeIndex.MAX (g.T.Index.NodeIndex.number l.after)) l.moved l.store.accesses ls₀ ls
      (unused_of g.T.Tables.cells l.initial.store) (unused_of g.T.Tables.cells l.store);
}

abbrev pub decreases-loop-at : goal.decreases-loop-at
decreases-loop-at g l = (l.initial.store.accesses + 18 * length (g.T.Tables.cells l.initial.store.tables).chain.nodes) - l.store.accesses
