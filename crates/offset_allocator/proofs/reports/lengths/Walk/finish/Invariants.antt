use Rattle.offset_allocator.proofs.Common.{◌≡◌, ℕ, ◌+◌, ◌-◌, ◌≤◌, IsTail}
use Rattle.offset_allocator.proofs.reports.lengths.Walk.finish.Given as goal

-- the walk is in its bin
abbrev pub invariant-loop-self : goal.invariant-loop-self
invariant-loop-self g l =
    let t = (g.T.Tables.cells l.tables).bins in
    record {
      total : ℕ;
      tail : IsTail g.T.Index.NodeIndex.MAX t l.self.name l.self.met total;
      few : total ≤ g.T.Index.NodeIndex.MAX;
      each : (n : ℕ) → IsTail g.T.Index.NodeIndex.MAX t l.fn.self.name l.fn.self.met n → IsTail g.T.Index.NodeIndex.MAX t l.self.name l.self.met n;
      accesses : l.count + l.fn.self.met ≡ l.fn.count + l.self.met;
    }

abbrev pub decreases-loop-self : goal.decreases-loop-self
decreases-loop-self g l = g.T.Index.NodeIndex.MAX - l.self.met
