-- When a request is granted, how near to a best fit, and why it is refused.
use Rattle.std.specs.Prelude.{◌≡◌, ◌≢◌, ℕ, ◌+◌, ◌-◌, ◌*◌, ◌<◌, ◌≤◌, false, List, [], ◌∷◌, ◌++◌, Some, codes, length, max, min, sum}
use Rattle.std.specs.List.{AllByRecursion}
use Rattle.offset_allocator.specs.declared.reports.Refusal.{Refusal}
use Rattle.offset_allocator.specs.declared.reports.Refusal.TheVariants.{Nodes, TooLarge, Space, Fragmented}
use Rattle.offset_allocator.specs.Classes.{value, up}
use Rattle.offset_allocator.specs.View.{View, Handle, Place, bin_at, free_sizes, padding_to, place_of, units}

-- there is room for k more blocks; one name always stays without a block, as in the original
abbrev pub AdmitsBlocks : ℕ → View → Type 0
AdmitsBlocks k v = length v.blocks + k < v.max_allocs

-- how many blocks a request may add: 1 with align 1 (the remainder), 2 above (the padding too)
abbrev pub blocks_needed : ℕ → ℕ
blocks_needed align = min align 2

-- a block of this many units, at whatever offset, contains size units that begin at a multiple of align
abbrev pub units_needed : ℕ → ℕ → ℕ
units_needed size align = size + align - 1

-- when a request is granted: there is room for the blocks that it may add, and some bin is not empty whose class is
-- large enough, which means that all its blocks have at least the units needed
abbrev pub CanGrant : ℕ → ℕ → View → Type 0
CanGrant blocks units v = AdmitsBlocks blocks v × ((c : ℕ) × (up units ≤ c) × (bin_at v.bins c ≢ []))

-- the smallest size of a free block that the request may take: that of a class large enough, and at least one unit
abbrev pub size_needed : ℕ → ℕ
size_needed units = max 1 (value (up units))

-- the block at a place holds n units from a multiple of align on
abbrev pub Holds : ℕ → ℕ → Place → Type 0
Holds n align p = padding_to align (units p.before) + n ≤ p.block.size

-- the newest block of class c does
abbrev pub NewestHolds : ℕ → ℕ → ℕ → View → Type 0
NewestHolds c n align v = (p : Place) (older : List ℕ) → v.blocks ≡ p.before ++ (p.block ∷ p.after) → bin_at v.bins c ≡ p.block.name ∷ older → Holds n align p

-- the block of the grant was free before, and is a near best fit for n units: for an aligned request, the units needed
pub record IsSplitNearBest (n : ℕ) (v : View) (g : Handle) : Type 0 where
  pub place : Place
  pub there : place_of g.name v.blocks ≡ Some place
  pub free : place.block.used ≡ false
  -- if a free block has at least 9/8 of n units, the block taken is at most 9/8 as large as that block
  pub fit : AllByRecursion (λ size. 9 * n ≤ 8 * size → 8 * place.block.size ≤ 9 * size) (free_sizes v.blocks)

-- a refusal of n is justified: every free block is smaller than 9/8 of n
abbrev pub IsGoodRefusal : ℕ → List ℕ → Type 0
IsGoodRefusal n ns = AllByRecursion (λ t. 8 * t < 9 * n) ns

-- why such a request is refused. Nodes: there is no room for the blocks. TooLarge: the whole space is smaller than any
-- block of a class large enough. Space: so are all free units together. Fragmented: together they are enough, but no
-- free block is of a class large enough
abbrev pub IsWhy : ℕ → ℕ → View → Refusal → Type 0
IsWhy blocks units v Nodes = v.max_allocs ≤ length v.blocks + blocks
IsWhy blocks units v TooLarge = AdmitsBlocks blocks v × (v.size < value (up units))
IsWhy blocks units v Space = AdmitsBlocks blocks v × (value (up units) ≤ v.size) × (sum (free_sizes v.blocks) < size_needed units) × (CanGrant blocks units v → ⊥)
IsWhy blocks units v Fragmented = AdmitsBlocks blocks v × (size_needed units ≤ sum (free_sizes v.blocks)) × (CanGrant blocks units v → ⊥)

-- the text of a reason
abbrev pub refusal_words : Refusal → List ℕ
refusal_words Nodes = codes "too few nodes are left"
refusal_words TooLarge = codes "the request is too large for the space"
refusal_words Space = codes "too few units are free"
refusal_words Fragmented = codes "no free block is large enough until the space is compacted"
