-- What is true of an allocator's fields.
use Rattle.std.specs.Prelude.{◌≡◌, ℕ, ◌+◌, ◌<◌, sum, take}
use Rattle.offset_allocator.specs.Cells.{Cells}
use Rattle.offset_allocator.specs.Bins.{IsBinned, bins_in}
use Rattle.offset_allocator.specs.Chain.{IsSpace, blocks}
use Rattle.offset_allocator.specs.View.{View, IsWellFormed, free_sizes}

-- what contracts see, of the fields
abbrev pub view_of : ℕ → ℕ → ℕ → Cells → ℕ → ℕ → ℕ → View
view_of max size limit c last spare_count accesses = record {
  size = size;
  max_allocs = limit;
  blocks = blocks c.chain last;
  bins = bins_in max c.bins;
  unused = take spare_count c.chain.spare;
  accesses = accesses;
}

-- what is true of the fields between two calls
pub record IsSound (max size limit : ℕ) (c : Cells) (last spare_count top free : ℕ) : Type 0 where
  pub memory : c.chain.reserved ≡ limit
  pub admitted : limit + 1 < max
  pub space : IsSpace c.chain last spare_count
  pub bins : IsBinned max c.bins top
  pub well : IsWellFormed (view_of max size limit c last spare_count 0)
  pub total : sum (free_sizes (blocks c.chain last)) ≡ free
