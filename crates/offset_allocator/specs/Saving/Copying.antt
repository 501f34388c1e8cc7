-- Tables that are filled with the cells of others.
use Rattle.std.specs.Prelude.{◌≡◌, ◌≢◌, ℕ, false, length, slice_index}
use Rattle.offset_allocator.specs.Cells.{Cells, AreEmpty, node}

-- tables with n nodes, none of them used, memory for `limit` nodes, and no name in a bin
pub record IsIdle (max n limit : ℕ) (d : Cells) : Type 0 where
  pub nodes : length d.chain.nodes ≡ n
  pub reserved : d.chain.reserved ≡ limit
  pub idle : (x : ℕ) → (node d.chain x).used ≡ false
  pub empty : AreEmpty max d.bins

-- a name has the same node, the same links in its bin and the same entry of the stack
pub record IsAlikeAt (x : ℕ) (c d : Cells) : Type 0 where
  pub node : node d.chain x ≡ node c.chain x
  pub newer : slice_index d.bins.newer x ≡ slice_index c.bins.newer x
  pub older : slice_index d.bins.older x ≡ slice_index c.bins.older x
  pub spare : slice_index d.chain.spare x ≡ slice_index c.chain.spare x

-- the node of a name, and its links, are those of other tables; the others stay, as does the stack
pub record IsFilled (x : ℕ) (f c d : Cells) : Type 0 where
  pub here : node d.chain x ≡ node f.chain x
  pub newer : slice_index d.bins.newer x ≡ slice_index f.bins.newer x
  pub older : slice_index d.bins.older x ≡ slice_index f.bins.older x
  pub others : (y : ℕ) → y ≢ x → (node d.chain y ≡ node c.chain y) × (slice_index d.bins.newer y ≡ slice_index c.bins.newer y) × (slice_index d.bins.older y ≡ slice_index c.bins.older y)
  pub spare : d.chain.spare ≡ c.chain.spare
  pub nodes : length d.chain.nodes ≡ length c.chain.nodes
  pub reserved : d.chain.reserved ≡ c.chain.reserved

-- no other cells are written than those of one name
pub record KeepsOtherNames (x : ℕ) (c d : Cells) : Type 0 where
  pub others : (y : ℕ) → y ≢ x → IsAlikeAt y c d
  pub nodes : length d.chain.nodes ≡ length c.chain.nodes
  pub reserved : d.chain.reserved ≡ c.chain.reserved
