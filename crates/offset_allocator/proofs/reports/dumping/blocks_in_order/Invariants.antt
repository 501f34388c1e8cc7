use Rattle.std.proofs.Common.{◌≡◌, ◌++◌, map}
use Rattle.offset_allocator.specs.Reporting.Listing.{as_placed, listing}
use Rattle.offset_allocator.proofs.reports.dumping.blocks_in_order.Given as goal

-- the blocks so far and those that are left are all blocks
abbrev pub invariant-loop-block : goal.invariant-loop-block
invariant-loop-block g l = map as_placed l.blocks.items ++ l.block-iterator ≡ listing l.space
