use Rattle.std.proofs.Common.{◌≡◌, ◌++◌, string_bytes, flat_map}
use Rattle.offset_allocator.specs.Reporting.Listing.{listing}
use Rattle.offset_uses.specs.Walking.{block_line}
use Rattle.offset_uses.proofs.walking.dump.Given as goal

-- the text so far and the lines of the blocks that are left are the lines of all blocks
abbrev pub invariant-loop-block : goal.invariant-loop-block
invariant-loop-block g l = string_bytes l.text ++ flat_map block_line l.block-iterator ≡ flat_map block_line (listing l.heap)
