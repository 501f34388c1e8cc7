use Rattle.offset_allocator.proofs.{Common.◌≡◌, Common.free_sizes, Reporting.Counting.sizes_below}
use Rattle.offset_allocator.proofs.reports.statistics.free_blocks.Given as goal

-- those of the classes so far
abbrev pub invariant-loop-class : goal.invariant-loop-class
invariant-loop-class g l = l.blocks ≡ sizes_below l.class (free_sizes l.allocator.blocks)
