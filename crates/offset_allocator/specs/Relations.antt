-- What `allocate`, `allocate_aligned`, `free`, `extend` and `reset` leave and return, which their clauses `step` state;
-- other calls have files of their own.
use Rattle.std.specs.Prelude.{◌≡◌, ◌≢◌, ℕ, zero, suc, ◌+◌, ◌<◌, ◌≤◌, ◌⊎◌, List, [], ◌∷◌, ◌++◌, length, replicate, Bool, true, false, Option, Some, None}
use Rattle.std.specs.List.{AllByRecursion}
use Rattle.offset_allocator.specs.Classes.{up, down}
use Rattle.offset_allocator.specs.Names.{Renames}
use Rattle.offset_allocator.specs.Requests.{AdmitsBlocks, CanGrant, blocks_needed, units_needed}
use Rattle.offset_allocator.specs.View.{View, Block, Handle, last_used, units, count_used, bin_at, AreCoalesced, IsNew, max_size, padding_to, replace, remove, push_all, free_block, free_part}

-- the same blocks and bins, however many accesses are counted, and whichever names are unused
abbrev pub SameSpace : View → View → Type 0
SameSpace v w = w ≡ record v { unused = w.unused; accesses = w.accesses }

-- the same space, unused names too, however many accesses are counted
abbrev pub SameState : View → View → Type 0
SameState v w = w ≡ record v { accesses = w.accesses }

-- the same space, unused names too, which has counted no access
abbrev pub IsCopy : View → View → Type 0
IsCopy v w = w ≡ record v { accesses = 0 }

-- the same space under this node limit, unused names too, which has counted no access
abbrev pub IsRaised : ℕ → View → View → Type 0
IsRaised limit v w = w ≡ record v { max_allocs = limit; accesses = 0 }

-- the same space under this node limit, unused names too, however many accesses are counted
abbrev pub SameUnder : ℕ → View → View → Type 0
SameUnder limit v w = w ≡ record v { max_allocs = limit; accesses = w.accesses }

-- one free block of size units, alone in its bin, under the name of the only node that was made
pub record IsFresh (size max_allocs : ℕ) (w : View) : Type 0 where
  pub name : ℕ
  pub first : name ≡ 0
  pub below : name < max_allocs
  pub view : w ≡ record { size = size; max_allocs = max_allocs; blocks = free_block name size ∷ []; bins = push_all (free_block name size ∷ []) (replicate 256 []); unused = []; accesses = 0 }

-- a free block is split into padding, n granted units and a remainder: the newest block of the smallest class that is
-- large enough for the units needed and has a block
pub record Splits (needed n : ℕ) (padding_at : ℕ → ℕ) (v w : View) (g : Handle) : Type 0 where
  pub before : List Block
  pub block : Block
  pub after : List Block
  pub blocks : v.blocks ≡ before ++ (block ∷ after)
  -- which block: a free one, of a class large enough, with no block in a smaller such class, the newest of its bin
  pub free : block.used ≡ false
  pub fits : up needed ≤ down block.size
  pub smallest : (c : ℕ) → up needed ≤ c → c < down block.size → bin_at v.bins c ≡ []
  pub older : List ℕ
  pub newest : bin_at v.bins (down block.size) ≡ block.name ∷ older
  -- its parts: the padding that its offset asks for, n units, and the remainder
  pub padding : ℕ
  pub padded : padding ≡ padding_at (units before)
  pub remainder : ℕ
  pub whole : padding + n + remainder ≡ block.size
  -- padding and remainder, unless empty, become free blocks under names that no block has; the granted part keeps the
  -- block's name
  pub padding_name : ℕ
  pub remainder_name : ℕ
  pub padding_new : 1 ≤ padding → IsNew padding_name v
  pub remainder_new : 1 ≤ remainder → IsNew remainder_name v
  pub differ : 1 ≤ padding → 1 ≤ remainder → padding_name ≢ remainder_name
  pub grant : g ≡ record { name = block.name; offset = units before + padding }
  -- the block leaves its bin, the parts take its place, and the free ones become the newest of their bins
  pub parts : List Block
  pub made : parts ≡ free_part padding_name padding
      ++ record block { size = n; used = true } ∷ free_part remainder_name remainder
  pub names : Renames v [] (free_part padding_name padding ++ free_part remainder_name remainder) w
  pub view : SameSpace (record v {
    blocks = before ++ (parts ++ after);
    bins = push_all parts (remove (down block.size) block.name v.bins);
  }) w

-- a request for n units: it is refused exactly when it cannot be granted, and then nothing changes
abbrev pub Allocates : ℕ → View → View → Option Handle → Type 0
Allocates n v w None = (CanGrant 1 n v → ⊥) × SameState v w
Allocates n v w (Some g) = AdmitsBlocks 1 v × Splits n n (λ offset. 0) v w g

-- a request for n units from a multiple of align on, likewise: it may add more blocks, and takes a block of a class
-- large enough for the units needed
abbrev pub Aligns : ℕ → ℕ → View → View → Option Handle → Type 0
Aligns n align v w None = (CanGrant (blocks_needed align) (units_needed n align) v → ⊥) × SameState v w
Aligns n align v w (Some g) = AdmitsBlocks (blocks_needed align) v
    × Splits (units_needed n align) n (padding_to align) v w g

-- the used block named x becomes free and coalesces with its free neighbours, left and right: the block keeps the name
-- x and is the newest of its bin
pub record Frees (x : ℕ) (v w : View) : Type 0 where
  pub before : List Block
  pub left : List Block
  pub block : Block
  pub right : List Block
  pub after : List Block
  pub blocks : v.blocks ≡ before ++ ((left ++ (block ∷ right)) ++ after)
  pub named : block.name ≡ x
  pub used : block.used ≡ true
  pub free : AllByRecursion (λ b. b.used ≡ false) (left ++ right)
  pub names : Renames v (left ++ right) [] w
  pub view : SameSpace (replace v before (left ++ (block ∷ right)) (free_block x (units (left ++ (block ∷ right))) ∷ []) after) w
  -- afterwards no two free blocks are neighbours: so left and right are all the free neighbours there were
  pub apart : AreCoalesced w.blocks

-- the space gets more units at its end: a free last block grows, and after a used one a new free block is added
pub record Adds (more : ℕ) (v w : View) : Type 0 where
  pub before : List Block
  -- the last block if it is free, otherwise nothing
  pub last : List Block
  pub blocks : v.blocks ≡ before ++ last
  pub free : AllByRecursion (λ b. b.used ≡ false) last
  pub name : ℕ
  pub named : AllByRecursion (λ b. b.name ≡ name) last
  pub new : last ≡ [] → IsNew name v
  pub names : Renames v last (free_block name (units last + more) ∷ []) w
  pub view : SameSpace (record (replace v before last (free_block name (units last + more) ∷ []) []) { size = v.size + more }) w
  -- afterwards no two free blocks are neighbours: so last is the last block if that is free
  pub apart : AreCoalesced w.blocks

-- a space can have this many units more: the sum is at most the largest size, and there is room for one more block or
-- the last block is free
abbrev pub CanExtend : ℕ → View → Type 0
CanExtend more v = (v.size + more ≤ max_size) × (AdmitsBlocks 1 v ⊎ ((before : List Block) × (last : Block) × (v.blocks ≡ before ++ last ∷ []) × (last.used ≡ false)))

-- a call for more units at the end
abbrev pub Extends : ℕ → View → View → Bool → Type 0
Extends more v w true = ((more ≡ 0) × SameState v w) ⊎ ((1 ≤ more) × CanExtend more v × Adds more v w)
Extends more v w false = (1 ≤ more) × (CanExtend more v → ⊥) × SameState v w

-- one free block of the whole size, alone in its bin, under some name
pub record IsEmpty (w : View) : Type 0 where
  pub name : ℕ
  pub below : name < w.max_allocs
  pub view : w ≡ record w { blocks = free_block name w.size ∷ []; bins = push_all (free_block name w.size ∷ []) (replicate 256 []) }

-- the k live ranges are freed, each time the last one
abbrev pub FreesLast : ℕ → View → View → Type 0
FreesLast zero v w = SameState v w
FreesLast (suc k) v w = (x : ℕ) × (u : View) × (last_used v.blocks ≡ Some x) × Frees x v u × FreesLast k u w

-- one free block of the whole size, under some name: of at most five blocks each live one is freed, and of more all nodes
-- are forgotten but one
pub record Resets (v w : View) : Type 0 where
  pub name : ℕ
  pub below : name < v.max_allocs
  pub few : length v.blocks ≤ 5 → FreesLast (count_used v.blocks) v w
  pub many : 5 < length v.blocks → (name ≡ 0) × (w.unused ≡ [])
  pub view : SameSpace (record v { blocks = free_block name v.size ∷ []; bins = push_all (free_block name v.size ∷ []) (replicate 256 []) }) w
