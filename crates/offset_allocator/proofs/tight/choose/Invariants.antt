use Rattle.offset_allocator.proofs.Common.{◌≡◌, ◌+◌, ◌-◌, ◌*◌, ◌≤◌, length, down, bins_in}
use Rattle.offset_allocator.specs.Tight.{holds_in, listed_from}
use Rattle.std.specs.List.{find}
use Rattle.offset_allocator.proofs.tight.choose.Given as goal

-- no name below the class passes
abbrev pub invariant-loop-class : goal.invariant-loop-class
invariant-loop-class g l =
    let t = g.T.Tables.cells l.tables in
    let ls = bins_in g.T.Index.NodeIndex.MAX t.bins in
    record {
      rest : find (holds_in t.chain l.size l.align) (listed_from (down l.size) ls) ≡ find (holds_in t.chain l.size l.align) (listed_from l.class ls);
      within : l.class ≤ 256;
      least : l.fn.count ≤ l.count;
      accesses : l.count + 6 * length (listed_from l.class ls) ≤ l.fn.count + 6 * length (listed_from (down l.size) ls);
    }

abbrev pub decreases-loop-class : goal.decreases-loop-class
decreases-loop-class g l = 256 - l.class
