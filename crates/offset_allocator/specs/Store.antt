-- What the fields of a store hold: `cells` is what its tables hold.
use Rattle.std.specs.Prelude.{◌≡◌, ℕ, List, take}
use Rattle.offset_allocator.specs.declared.store.Store.{Store}
use Rattle.offset_allocator.specs.Cells.{Cells}
use Rattle.offset_allocator.specs.View.{Place}
use Rattle.offset_allocator.specs.Chain.{HasPlace}
use Rattle.offset_allocator.specs.Bins.{IsBinned, bins_in}

-- the store, with memory for `limit` nodes, holds a chain with the block x at a place
abbrev pub IsPlaceIn : {A B C : Type 0} → (A → Cells) → Store A B C → ℕ → ℕ → Place → Type 0
IsPlaceIn cells s limit x p = HasPlace (cells s.tables).chain limit s.last s.spare_count x p

-- its links and masks agree with its bins (that the bins have exactly the free blocks is `AreInBins`, of View)
abbrev pub AreBinned : {A B C : Type 0} → (A → Cells) → ℕ → Store A B C → Type 0
AreBinned cells max s = IsBinned max (cells s.tables).bins s.top_mask

-- its bins
abbrev pub bins_of : {A B C : Type 0} → (A → Cells) → ℕ → Store A B C → List (List ℕ)
bins_of cells max s = bins_in max (cells s.tables).bins

-- a change of the bins leaves the chain as it was
abbrev pub SameChain : {A B C : Type 0} → (A → Cells) → Store A B C → Store A B C → Type 0
SameChain cells s t = ((cells t.tables).chain ≡ (cells s.tables).chain) × (t.last ≡ s.last) × (t.spare_count ≡ s.spare_count)

-- a change of the chain leaves the bins as they were
abbrev pub SameBins : {A B C : Type 0} → (A → Cells) → Store A B C → Store A B C → Type 0
SameBins cells s t = ((cells t.tables).bins ≡ (cells s.tables).bins) × (t.top_mask ≡ s.top_mask)

-- its unused names, the next one last
abbrev pub unused_of : {A B C : Type 0} → (A → Cells) → Store A B C → List ℕ
unused_of cells s = take s.spare_count (cells s.tables).chain.spare
