use Rattle.offset_allocator.proofs.{Common.◌≡◌, Common.ℕ, Common.List, Common.◌+◌, Common.◌-◌, Common.◌*◌, Common.length, Common.bin_at, Common.bins_in, Reporting.Largest.IsWalked}
use Rattle.offset_allocator.specs.Reporting.Statistics.{greatest, sizes_of}
use Rattle.offset_allocator.proofs.reports.statistics.largest_of_class.Given as goal

-- the largest of the names that were met
abbrev pub invariant-loop-name : goal.invariant-loop-name
invariant-loop-name g l =
    let t = g.T.Tables.cells l.tables in
    record {
      met : List ℕ;
      walked : IsWalked g.T.Index.NodeIndex.MAX t.bins l.name met (bin_at (bins_in g.T.Index.NodeIndex.MAX t.bins) l.class);
      largest : l.largest ≡ greatest (sizes_of t.chain met);
      accesses : l.count ≡ l.fn.count + 1 + 2 * length met;
    }

abbrev pub decreases-loop-name : goal.decreases-loop-name
decreases-loop-name g l = (l.fn.count + 1 + 2 * length (bin_at (bins_in g.T.Index.NodeIndex.MAX (g.T.Tables.cells l.tables).bins) l.class)) - l.count
