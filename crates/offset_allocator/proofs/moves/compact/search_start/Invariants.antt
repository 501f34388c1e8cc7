use Rattle.offset_allocator.proofs.Common.{◌≡◌, ℕ, ◌+◌, ◌-◌, ◌*◌, ◌≤◌, List, ◌++◌, length, drop, blocks, bins_in}
use Rattle.offset_allocator.proofs.{Moving.Nearest.BeginsAt}
use Rattle.offset_allocator.specs.Moving.Compacting.{IsStart, newest}
use Rattle.offset_allocator.proofs.moves.compact.search_start.Given as goal

-- the search may begin at the block found so far, which is the first of those that were seen
abbrev pub invariant-loop : goal.invariant-loop
invariant-loop g l =
    let bs = blocks (g.T.Tables.cells l.tables).chain l.last in
    let bins = bins_in g.T.Index.NodeIndex.MAX (g.T.Tables.cells l.tables).bins in
    record {
      seen : List ℕ;
      is : newest 32 bins ≡ seen ++ newest (32 - l.counter) (drop l.class bins);
      long : length seen ≡ l.counter;
      begins : BeginsAt seen bs l.last l.start l.lowest;
      start : IsStart bs l.start;
      class : l.class ≤ 256;
      later : 1 ≤ l.counter → 1 ≤ l.class;
      accesses : l.count ≡ l.initial.count + 2 * l.counter;
    }
