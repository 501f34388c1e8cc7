use Rattle.offset_allocator.proofs.{Common.◌≡◌, Common.ℕ, Common.List, Common.None, Common.◌+◌, Common.◌-◌, Common.◌*◌, Common.length, Common.bin_at, Common.bins_in, Reporting.Largest.IsWalked}
use Rattle.offset_allocator.specs.Tight.{holds_in}
use Rattle.std.specs.List.{find}
use Rattle.offset_allocator.proofs.tight.first_of_bin.Given as goal

-- none of the names that were met passes
abbrev pub invariant-loop-name : goal.invariant-loop-name
invariant-loop-name g l =
    let t = g.T.Tables.cells l.tables in
    record {
      met : List ℕ;
      walked : IsWalked g.T.Index.NodeIndex.MAX t.bins l.name met (bin_at (bins_in g.T.Index.NodeIndex.MAX t.bins) l.class);
      none : find (holds_in t.chain l.size l.align) met ≡ None;
      accesses : l.count ≡ l.fn.count + 1 + 3 * length met;
    }

abbrev pub decreases-loop-name : goal.decreases-loop-name
decreases-loop-name g l = (l.fn.count + 1 + 3 * length (bin_at (bins_in g.T.Index.NodeIndex.MAX (g.T.Tables.cells l.tables).bins) l.class)) - l.count
