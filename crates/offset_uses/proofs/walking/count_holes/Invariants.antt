use Rattle.std.proofs.Common.{◌≡◌, ℕ, ◌+◌, ◌<◌, length, slice_index}
use Rattle.offset_allocator.specs.{View.free_sizes, Reporting.FreeSizes.count_of}
use Rattle.offset_uses.proofs.Holes.{holes}
use Rattle.offset_uses.proofs.walking.count_holes.Given as goal

-- the free blocks so far and those that are left are all free blocks
abbrev pub invariant-loop-block : goal.invariant-loop-block
invariant-loop-block g l = (length l.holes ≡ 256) × ((c : ℕ) → c < 256 → slice_index l.holes c + holes c l.block-iterator ≡ count_of c (free_sizes l.space.blocks))
