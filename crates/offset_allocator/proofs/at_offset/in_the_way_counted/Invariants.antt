use Rattle.offset_allocator.proofs.Common.{◌≡◌, ◌+◌, ◌*◌, ◌≤◌, length}
use Rattle.std.specs.List.{find}
use Rattle.offset_allocator.specs.{AtOffset.is_in_the_way, Reporting.Listing.listing}
use Rattle.offset_allocator.proofs.at_offset.in_the_way_counted.Given as goal

-- no block so far is in the way
abbrev pub invariant-loop-block : goal.invariant-loop-block
invariant-loop-block g l = record {
  passed : find (is_in_the_way l.offset l.size) (listing l.allocator) ≡ find (is_in_the_way l.offset l.size) l.blocks;
  least : l.fn.count + 4 * length (listing l.allocator) ≤ l.count + 4 * length l.blocks;
  accesses : l.count + 5 * length l.blocks ≤ l.fn.count + 5 * length (listing l.allocator);
}

abbrev pub decreases-loop-block : goal.decreases-loop-block
decreases-loop-block g l = length l.blocks
