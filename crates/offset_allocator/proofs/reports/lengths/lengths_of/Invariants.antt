use Rattle.offset_allocator.proofs.Common.{◌≡◌, ℕ, ◌+◌, ◌-◌, length, bin_at, bins_in, IsTail}
use Rattle.offset_allocator.proofs.reports.lengths.lengths_of.Given as goal

-- each walk is in its bin
abbrev pub invariant-loop-a : goal.invariant-loop-a
invariant-loop-a g l =
    let t = (g.T.Tables.cells l.tables).bins in
    let names : ℕ → ℕ = λ c. length (bin_at (bins_in g.T.Index.NodeIndex.MAX t) c) in
    record {
      a : IsTail g.T.Index.NodeIndex.MAX t l.a.name l.a.met (names l.class);
      b : IsTail g.T.Index.NodeIndex.MAX t l.b.name l.b.met (names (l.class + 1));
      c : IsTail g.T.Index.NodeIndex.MAX t l.c.name l.c.met (names (l.class + 2));
      d : IsTail g.T.Index.NodeIndex.MAX t l.d.name l.d.met (names (l.class + 3));
      accesses : l.count ≡ l.fn.count + 4 + l.a.met + l.b.met + l.c.met + l.d.met;
    }

abbrev pub decreases-loop-a : goal.decreases-loop-a
decreases-loop-a g l =
    let names : ℕ → ℕ = λ c. length (bin_at (bins_in g.T.Index.NodeIndex.MAX (g.T.Tables.cells l.tables).bins) c) in
    (names l.class + names (l.class + 1) + names (l.class + 2) + names (l.class + 3)) - (l.a.met + l.b.met + l.c.met + l.d.met)
