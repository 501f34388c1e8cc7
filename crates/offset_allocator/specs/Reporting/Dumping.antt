-- A space as JSON.
use Rattle.std.specs.Prelude.{ℕ, Bool, true, false, List, [], ◌∷◌, ◌++◌, Option, Some, None, codes, if◌then◌else◌}
use Rattle.std.specs.Fmt.{decimal}
use Rattle.offset_allocator.specs.Reporting.Listing.{Placed, placed}
use Rattle.offset_allocator.specs.declared.reports.statistics.Statistics.{Statistics}
use Rattle.offset_allocator.specs.View.{View, Handle}

-- a comma, but not before the first
abbrev pub comma : Bool → List ℕ
comma first = if first then [] else codes ","

-- texts of blocks, in space order, with commas between them
abbrev pub joined : (Placed → List ℕ) → Bool → List Placed → List ℕ
joined text first [] = []
joined text first (p ∷ ps) = comma first ++ (text p ++ joined text false ps)

-- the name of a used block
abbrev pub name_json : Option Handle → List ℕ
name_json None = []
name_json (Some g) = codes ",\"name\":" ++ decimal g.name

-- a block, with its name where it is used
abbrev pub block_json : Placed → List ℕ
block_json p = codes "{\"offset\":" ++ (decimal p.offset ++ (codes ",\"size\":" ++ (decimal p.size ++ (name_json p.handle ++ codes "}"))))

-- what a block is, in the words of VMA
abbrev pub vma_type : Option Handle → List ℕ
vma_type None = codes "FREE"
vma_type (Some g) = codes "UNKNOWN"

-- a block as VMA has it
abbrev pub vma_json : Placed → List ℕ
vma_json p = codes "{\"Offset\":" ++ (decimal p.offset ++ (codes ",\"Type\":\"" ++ (vma_type p.handle ++ (codes "\",\"Size\":" ++ (decimal p.size ++ codes "}")))))

-- the size, the node limit, and what is live
abbrev pub live_json : ℕ → ℕ → Statistics → List ℕ
live_json size limit s =
    codes "{\"size\":" ++ (decimal size
    ++ (codes ",\"max_allocs\":" ++ (decimal limit ++ (codes ",\"live_ranges\":" ++ (decimal s.live_ranges ++ (codes ",\"live_units\":" ++ decimal s.live_units))))))

-- what is free, and the nodes that no block has
abbrev pub free_json : Statistics → List ℕ
free_json s =
    codes ",\"free_blocks\":" ++ (decimal s.free_blocks ++ (codes ",\"free_units\":" ++ (decimal s.free_units ++ (codes ",\"largest_free_block\":" ++ (decimal s.largest_free_block
    ++ (codes ",\"largest_free_region\":" ++ (decimal s.largest_free_region ++ (codes ",\"unused_nodes\":" ++ (decimal s.unused_nodes ++ codes ",\"blocks\":[")))))))))

-- the numbers of a space
abbrev pub numbers_json : ℕ → ℕ → Statistics → List ℕ
numbers_json size limit s = live_json size limit s ++ free_json s

-- a space with these statistics as JSON: its numbers, and its blocks in space order
abbrev pub space_json : Statistics → View → List ℕ
space_json s v = numbers_json v.size v.max_allocs s ++ (joined block_json true (placed 0 v.blocks) ++ codes "]}")

-- what VMA has before the ranges of a block of memory: here it is the only one, of the kind 0
abbrev pub vma_numbers : ℕ → Statistics → List ℕ
vma_numbers size s =
    codes "{\"General\":{\"API\":\"Vulkan\"},\"DefaultPools\":{\"Type 0\":{\"PreferredBlockSize\":" ++ (decimal size ++ (codes ",\"Blocks\":{\"0\":{\"TotalBytes\":"
    ++ (decimal size ++ (codes ",\"UnusedBytes\":" ++ (decimal s.free_units ++ (codes ",\"Allocations\":" ++ (decimal s.live_ranges
    ++ (codes ",\"UnusedRanges\":" ++ (decimal s.free_blocks ++ codes ",\"Suballocations\":[")))))))))

-- a space with these statistics in the form of VMA's dumps
abbrev pub vma_space_json : Statistics → View → List ℕ
vma_space_json s v = vma_numbers v.size s ++ (joined vma_json true (placed 0 v.blocks) ++ codes "]}},\"DedicatedAllocations\":[]}}}")
