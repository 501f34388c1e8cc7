-- What is live and what is free, in numbers.
use Rattle.std.specs.Prelude.{◌≡◌, ℕ, ◌+◌, max, List, [], ◌∷◌, length, map, sum}
use Rattle.offset_allocator.specs.declared.reports.statistics.Statistics.{Statistics}
use Rattle.offset_allocator.specs.Cells.{ChainCells, node}
use Rattle.offset_allocator.specs.Reporting.FreeSizes.{largest}
use Rattle.offset_allocator.specs.View.{View, free_sizes, count_used, used_units}

-- the largest of some numbers, or 0 where there is none; `largest` of `FreeSizes` is that of the values of their classes
abbrev pub greatest : List ℕ → ℕ
greatest [] = 0
greatest (n ∷ ns) = max n (greatest ns)

-- the sizes of the nodes of these names
abbrev pub sizes_of : ChainCells → List ℕ → List ℕ
sizes_of c xs = map (λ x. (node c x).size) xs

-- these are the numbers of a view, at the node limit too
pub record AreStatistics (s : Statistics) (v : View) : Type 0 where
  pub live_ranges : s.live_ranges ≡ count_used v.blocks
  pub live_units : s.live_units ≡ used_units v.blocks
  pub free_blocks : s.free_blocks ≡ length (free_sizes v.blocks)
  pub free_units : s.free_units ≡ sum (free_sizes v.blocks)
  pub largest_free_block : s.largest_free_block ≡ greatest (free_sizes v.blocks)
  pub largest_free_region : s.largest_free_region ≡ largest (free_sizes v.blocks)
  pub unused_nodes : s.unused_nodes + length v.blocks ≡ v.max_allocs
