-- The blocks of a space in order, and the linked nodes that hold them.
use Rattle.std.specs.Prelude.{ℕ, suc, false, List, [], ◌∷◌, ◌++◌, Option, Some, None, nat_lt, if◌then◌else◌, length, take, ◌≡◌, ◌+◌, ◌^◌, ◌<◌, ◌≤◌}
use Rattle.std.proofs.Common.{zero}
use Rattle.offset_allocator.specs.Cells.{ChainCells, node}
use Rattle.offset_allocator.specs.View.{Block, Place, units, count_named, times, free_start, without_start, free_end, without_end}

-- the name of the first block, or q where there is none
abbrev pub first_or : Option ℕ → List Block → Option ℕ
first_or q [] = q
first_or q (b ∷ bs) = Some b.name

-- the name of the last block, or p where there is none
abbrev pub last_or : Option ℕ → List Block → Option ℕ
last_or p [] = p
last_or p (b ∷ bs) = last_or (Some b.name) bs

-- the nodes of the blocks bs, from the offset o on, are linked between p and q
abbrev pub IsRow : ChainCells → Option ℕ → ℕ → List Block → Option ℕ → Type 0
IsRow c p o [] q = Unit {0}
IsRow c p o (b ∷ bs) q =
    (node c b.name ≡ record { offset = o; size = b.size; used = b.used; before = p; after = first_or q bs })
    × IsRow c (Some b.name) (o + b.size) bs q

-- the blocks from a link back, before those that were met already
abbrev pub blocks_back : ChainCells → ℕ → Option ℕ → List Block → List Block
blocks_back c zero q rest = rest
blocks_back c (suc f) None rest = rest
blocks_back c (suc f) (Some k) rest =
    blocks_back c f (node c k).before (record { name = k; size = (node c k).size; used = (node c k).used } ∷ rest)

-- the blocks of the space, in order, found from the last one back
unfoldable pub blocks : ChainCells → ℕ → List Block
blocks c last = blocks_back c (length c.nodes) (Some last) []

-- the tables, with memory for `limit` nodes, hold the blocks bs, which end in last, and have `spare_count` unused names
pub record IsChain (c : ChainCells) (limit last spare_count : ℕ) (bs : List Block) : Type 0 where
  pub memory : c.reserved ≡ limit
  pub within : length c.nodes ≤ limit
  pub stack : length c.spare ≡ length c.nodes
  pub row : IsRow c None 0 bs None
  pub ends : last_or None bs ≡ Some last
  -- each node is that of one block, or its name is once among the first `spare_count` of the stack: those are unused
  pub each : (k : ℕ) → count_named k bs + times k (take spare_count c.spare) ≡ (if nat_lt k (length c.nodes) then 1 else 0)
  pub idle : (k : ℕ) → count_named k bs ≡ 0 → (node c k).used ≡ false
  pub full : length bs + spare_count ≡ length c.nodes
  pub fits : units bs < 2 ^ 32

-- the tables hold a chain of nodes that ends in last, and have `spare_count` unused names
abbrev pub IsSpace : ChainCells → ℕ → ℕ → Type 0
IsSpace c last spare_count = IsChain c c.reserved last spare_count (blocks c last)

-- the tables, with memory for `limit` nodes, hold a chain with the block x at a place
pub record HasPlace (c : ChainCells) (limit last spare_count x : ℕ) (p : Place) : Type 0 where
  pub chain : IsChain c limit last spare_count (p.before ++ p.block ∷ p.after)
  pub name : p.block.name ≡ x
  -- it follows from the rest; every access to the node asks for it
  pub below : x < length c.nodes

-- the block at a place coalesced with a free block directly before it
abbrev pub coalesced_before : Place → Place
coalesced_before p = record { before = without_end p.before; block = record p.block { size = units (free_end p.before) + p.block.size }; after = p.after }

-- the block at a place coalesced with a free block directly after it
abbrev pub coalesced_after : Place → Place
coalesced_after p = record { before = p.before; block = record p.block { size = p.block.size + units (free_start p.after) }; after = without_start p.after }

-- the name of the free block directly before the block named x; where there is none, no free block is directly before it
abbrev pub IsFreeBefore : ChainCells → ℕ → Option ℕ → Type 0
IsFreeBefore c x None = (limit last spare_count : ℕ) (p : Place) → HasPlace c limit last spare_count x p → free_end p.before ≡ []
IsFreeBefore c x (Some y) = (Some y ≡ (node c x).before) × ((node c y).used ≡ false)

-- the name of the free block directly after the block named x; where there is none, no free block is directly after it
abbrev pub IsFreeAfter : ChainCells → ℕ → Option ℕ → Type 0
IsFreeAfter c x None = (limit last spare_count : ℕ) (p : Place) → HasPlace c limit last spare_count x p → free_start p.after ≡ []
IsFreeAfter c x (Some y) = (Some y ≡ (node c x).after) × ((node c y).used ≡ false)
