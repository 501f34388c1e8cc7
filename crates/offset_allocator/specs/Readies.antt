-- A node that is made where no name is unused.
use Rattle.std.specs.Prelude.{◌≡◌, ℕ, zero, suc, List, [], ◌∷◌, length, take}
use Rattle.offset_allocator.specs.Cells.{Cells, ChainCells, node}
use Rattle.offset_allocator.specs.View.{Block}
use Rattle.offset_allocator.specs.Bins.{IsBinned, bins_in}
use Rattle.offset_allocator.specs.Chain.{IsChain}

-- the tables hold the same bins
abbrev pub SameBinLists : ℕ → Cells → Cells → ℕ → Type 0
SameBinLists max c d top = IsBinned max c.bins top → IsBinned max d.bins top × (bins_in max d.bins ≡ bins_in max c.bins)

-- the tables hold the same blocks and the same bins, with another number of unused names
pub record Readies (max : ℕ) (c d : Cells) (spares spares' : ℕ) : Type 0 where
  pub chain : (limit last : ℕ) (bs : List Block) → IsChain c.chain limit last spares bs → IsChain d.chain limit last spares' bs
  pub node : (x : ℕ) → node d.chain x ≡ node c.chain x
  pub bins : (top : ℕ) → SameBinLists max c d top

-- the unused names then: those that there were, or where there were none, that of the new node
abbrev pub AreReady : ChainCells → ℕ → List ℕ → Type 0
AreReady c zero now = now ≡ length c.nodes ∷ []
AreReady c (suc k) now = now ≡ take (suc k) c.spare
