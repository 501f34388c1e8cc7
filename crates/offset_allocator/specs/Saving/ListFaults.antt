-- What is wrong with the lists of a state: the first word that is wrong, by its place in its list.
use Rattle.std.specs.Prelude.{◌≡◌, ℕ, ◌+◌, ◌-◌, ◌*◌, ◌<◌, ◌≤◌, ◌⊎◌, List, drop, length, slice_index_or, take}
use Rattle.offset_allocator.specs.Saving.Building.{AreEach, AreOrdered}
use Rattle.offset_allocator.specs.Classes.{down}
use Rattle.offset_allocator.specs.Saving.State.{block_words, freed, size_named}
use Rattle.offset_allocator.specs.View.{Block, AreCoalesced, count_named, times, units}
use Rattle.offset_allocator.specs.declared.states.building.Wrong.{Wrong}
use Rattle.offset_allocator.specs.declared.states.building.Wrong.TheVariants.{Block as OfBlock, Unused as OfUnused, Free as OfFree, Neighbours as OfNeighbours}

-- the number at a place of a list
abbrev pub word : ℕ → List ℕ → ℕ
word i ws = slice_index_or ws i 0

-- the last blocks of a space, which the first words are of: each has the name of a node, no two have the same, and they are
-- no larger than the space
pub record AreLast (nodes size : ℕ) (ws : List ℕ) (bs : List Block) : Type 0 where
  pub words : block_words bs ≡ take (2 * length bs) ws
  pub below : (x : ℕ) → nodes ≤ x → count_named x bs ≡ 0
  pub once : (x : ℕ) → count_named x bs ≤ 1
  pub fit : units bs ≤ size

-- a name that no further block can have: that of no node, or of one of these blocks
abbrev pub CannotName : ℕ → List Block → ℕ → Type 0
CannotName nodes bs x = (nodes ≤ x) ⊎ (1 ≤ count_named x bs)

-- the first word of a block that is wrong, where those before it are of the last blocks: the name is taken; or with this
-- size they are larger than the space; or it is the last word, and they are smaller
abbrev pub IsBlockFault : ℕ → ℕ → List ℕ → ℕ → Type 0
IsBlockFault nodes size words i = (bs : List Block) × AreLast nodes size words bs × (
    ((i ≡ 2 * length bs) × (i < length words) × CannotName nodes bs (word i words))
    ⊎ ((i ≡ 2 * length bs + 1) × (i < length words) × (CannotName nodes bs (word (2 * length bs) words) → ⊥) × (size < word i words + units bs))
    ⊎ ((i + 1 ≡ length words) × (2 * length bs ≡ length words) × (units bs < size)))

-- these are all blocks of the space, with a node each
pub record AreBlocks (nodes size : ℕ) (ws : List ℕ) (bs : List Block) : Type 0 where
  pub words : block_words bs ≡ ws
  pub below : (x : ℕ) → nodes ≤ x → count_named x bs ≡ 0
  pub once : (x : ℕ) → count_named x bs ≤ 1
  pub whole : units bs ≡ size

-- an unused name that is wrong: that of no node, of a block, or one of those before it
abbrev pub IsNotUnused : ℕ → List Block → List ℕ → ℕ → Type 0
IsNotUnused nodes bs names i = (nodes ≤ word i names) ⊎ (1 ≤ count_named (word i names) bs) ⊎ (1 ≤ times (word i names) (take i names))

-- the first of these
abbrev pub IsUnusedFault : ℕ → List Block → List ℕ → ℕ → Type 0
IsUnusedFault nodes bs names i = (i < length names) × IsNotUnused nodes bs names i × ((j : ℕ) → j < i → IsNotUnused nodes bs names j → ⊥)

-- a name of a free block that is wrong: that of no block, one of those behind it, or of a block of a larger class than that of
-- the next name
abbrev pub IsNotFree : List Block → List ℕ → ℕ → Type 0
IsNotFree bs names i = (count_named (word i names) bs ≡ 0) ⊎ (1 ≤ times (word i names) (drop (i + 1) names))
    ⊎ ((i + 1 < length names) × (down (size_named (word (i + 1) names) bs) < down (size_named (word i names) bs)))

-- the last of these
abbrev pub IsFreeFault : List Block → List ℕ → ℕ → Type 0
IsFreeFault bs names i = (i < length names) × IsNotFree bs names i × ((j : ℕ) → i < j → j < length names → IsNotFree bs names j → ⊥)

-- the names of free blocks are right: each is that of one block, and they are in the order of bins
abbrev pub AreFreeNames : List Block → List ℕ → Type 0
AreFreeNames bs names = ((x : ℕ) → times x names ≤ count_named x bs) × AreOrdered bs 0 names

-- the last i blocks are coalesced, and with the one before them they are not
abbrev pub IsNeighboursFault : List Block → ℕ → Type 0
IsNeighboursFault bs i = (i < length bs) × AreCoalesced (drop (length bs - i) bs) × (AreCoalesced (drop (length bs - (i + 1)) bs) → ⊥)

-- which word of which list is the first that is wrong
abbrev pub IsWrong : ℕ → ℕ → List ℕ → List ℕ → List ℕ → Wrong → Type 0
IsWrong nodes size blocks free unused (OfBlock i) = IsBlockFault nodes size blocks i
IsWrong nodes size blocks free unused (OfUnused i) = (bs : List Block) × AreBlocks nodes size blocks bs × IsUnusedFault nodes bs unused i
IsWrong nodes size blocks free unused (OfFree i) = (bs : List Block) × AreBlocks nodes size blocks bs × AreEach bs unused × IsFreeFault bs free i
IsWrong nodes size blocks free unused (OfNeighbours i) =
    (bs : List Block) × AreBlocks nodes size blocks bs × AreEach bs unused × AreFreeNames bs free × IsNeighboursFault (freed free bs) i
