-- Tables on the way to those of a state that is read.
use Rattle.std.specs.Prelude.{◌≡◌, ℕ, ◌+◌, ◌≤◌, List, [], ◌∷◌, None, length, take, replicate, nat_lt, if◌then◌else◌}
use Rattle.offset_allocator.specs.Classes.{down}
use Rattle.offset_allocator.specs.Cells.{Cells, AreEmpty, node}
use Rattle.offset_allocator.specs.Chain.{IsChain, IsRow}
use Rattle.offset_allocator.specs.Store.{AreBinned, bins_of}
use Rattle.offset_allocator.specs.declared.store.Store.{Store}
use Rattle.offset_allocator.specs.Saving.State.{block_words, filed, freed, size_named}
use Rattle.offset_allocator.specs.View.{Block, AreCoalesced, count_named, one, times, units}

-- the tables have n nodes, memory for `limit` nodes, and no name in a bin
pub record IsMade (max n limit : ℕ) (c : Cells) : Type 0 where
  pub nodes : length c.chain.nodes ≡ n
  pub reserved : c.chain.reserved ≡ limit
  pub empty : AreEmpty max c.bins

-- the last blocks of a space, all used, from an offset on, and some unused names: just these are marked as used
pub record HasBack (c : Cells) (offset : ℕ) (bs : List Block) (unused : List ℕ) : Type 0 where
  pub row : IsRow c.chain None offset bs None
  pub used : freed [] bs ≡ bs
  pub marks : (x : ℕ) → count_named x bs + times x unused ≡ one (node c.chain x).used

-- each of the nodes that blocks and unused names need is that of one block, or unused
abbrev pub AreEach : List Block → List ℕ → Type 0
AreEach bs unused = (x : ℕ) → count_named x bs + times x unused ≡ (if nat_lt x (length bs + length unused) then 1 else 0)

-- these names are in the order of bins, from that of class n on: no block is of a smaller class than the one before
abbrev pub AreOrdered : List Block → ℕ → List ℕ → Type 0
AreOrdered bs n [] = Unit {0}
AreOrdered bs n (x ∷ xs) = (n ≤ down (size_named x bs)) × AreOrdered bs (down (size_named x bs)) xs

-- the store has these blocks, all used, and these unused names, and no name in a bin
pub record IsLaidOut {A B C : Type 0} (cells : A → Cells) (max size limit : ℕ) (blocks unused : List ℕ) (s : Store A B C) : Type 0 where
  pub all : List Block
  pub words : block_words all ≡ blocks
  pub used : freed [] all ≡ all
  pub whole : units all ≡ size
  pub each : AreEach all unused
  pub chain : IsChain (cells s.tables).chain limit s.last s.spare_count all
  pub count : s.spare_count ≡ length unused
  pub spare : take (length unused) (cells s.tables).chain.spare ≡ unused
  pub binned : AreBinned cells max s
  pub empty : bins_of cells max s ≡ replicate 256 []

-- the store has these blocks, of which those with these names are free, and these unused names
pub record IsBuilt {A B C : Type 0} (cells : A → Cells) (max size limit : ℕ) (blocks free unused : List ℕ) (s : Store A B C) : Type 0 where
  pub all : List Block
  pub words : block_words all ≡ blocks
  pub whole : units all ≡ size
  pub each : AreEach all unused
  pub chain : IsChain (cells s.tables).chain limit s.last s.spare_count (freed free all)
  pub count : s.spare_count ≡ length unused
  pub spare : take (length unused) (cells s.tables).chain.spare ≡ unused
  pub binned : AreBinned cells max s
  pub bins : bins_of cells max s ≡ filed all free
  pub once : (x : ℕ) → times x free ≤ count_named x all
  pub ordered : AreOrdered all 0 free
  pub apart : AreCoalesced (freed free all)
