use Rattle.std.proofs.Common.{◌≡◌, ◌++◌, drop, map, string_bytes, true}
use Rattle.offset_allocator.specs.Reporting.Listing.{as_placed}
use Rattle.offset_allocator.specs.Reporting.Dumping.{joined, block_json}
use Rattle.offset_allocator.proofs.reports.dumping.put_blocks.Given as goal

-- the text so far and the blocks that are left are all blocks
abbrev pub invariant-loop-block : goal.invariant-loop-block
invariant-loop-block g l = string_bytes l.text ++ joined block_json l.first (drop l.block-index (map as_placed l.blocks)) ≡ string_bytes l.fn.text ++ joined block_json true (map as_placed l.blocks)
