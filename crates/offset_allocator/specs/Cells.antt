-- What the tables hold, without an index type: nodes and unused names, and the links of the bins.
use Rattle.std.specs.Prelude.{ℕ, nat_lt, ◌-◌, ◌<◌, Bool, false, List, [], ◌∷◌, ◌++◌, Option, Some, None, length, ◌≡◌, ◌≤◌, replicate, slice_set, slice_index, slice_index_or, eqb, if◌then◌else◌}

-- a node, whichever tables its fields are in
pub record Node : Type 0 where
  pub offset : ℕ
  pub size : ℕ
  pub used : Bool
  pub before : Option ℕ
  pub after : Option ℕ

-- what the chain of blocks works on: the nodes that were made, the stack of unused names (its first entries: one for each
-- node that no block has), and how many nodes there is memory for
pub record ChainCells : Type 0 where
  pub nodes : List Node
  pub spare : List ℕ
  pub reserved : ℕ

-- what the bins work on; the largest number is no link
pub record BinCells : Type 0 where
  pub newer : List ℕ
  pub older : List ℕ
  pub heads : List ℕ
  pub masks : List ℕ

-- what all tables hold
pub record Cells : Type 0 where
  pub chain : ChainCells
  pub bins : BinCells

-- the bytes of a link whose numbers are at most this: 1, 2 or 4
abbrev pub link_bytes : ℕ → ℕ
link_bytes max = if nat_lt max 256 then 1 else if nat_lt max 65536 then 2 else 4

-- a new node: of no units, linked to none; `node` gives it for a name past the tables too
abbrev pub blank : Node
blank = record { offset = 0; size = 0; used = false; before = None; after = None }

-- the node of a name
unfoldable pub node : ChainCells → ℕ → Node
node c x = slice_index_or c.nodes x blank

-- the nodes, with another node under a name
unfoldable pub put : ChainCells → ℕ → Node → ChainCells
put c x n = record c { nodes = slice_set c.nodes x n }

-- the stack of unused names, with another name at a place
unfoldable pub with_spare : ChainCells → ℕ → ℕ → ChainCells
with_spare c i v = record c { spare = slice_set c.spare i v }

-- the nodes with one more, which is blank, and the stack, one entry longer, with its name at a place
unfoldable pub with_node : ChainCells → ℕ → ChainCells
with_node c i = record c { nodes = c.nodes ++ blank ∷ []; spare = slice_set (c.spare ++ length c.nodes ∷ []) i (length c.nodes) }

-- a link of this number, where the largest number is no link
abbrev pub link_of : ℕ → ℕ → Option ℕ
link_of max n = if eqb n max then None else Some n

-- what is written in place of a link to a newer node where a node is used: the number below the largest, which is
-- neither a name nor no link
abbrev pub mark_of : ℕ → Bool → ℕ
mark_of max used = if used then max - 1 else max

-- the tables have one length, at most the memory, which is below the largest number; there are a head for each class
-- and 4 masks; the links to newer nodes say which nodes are used
pub record AreShaped (max : ℕ) (c : Cells) : Type 0 where
  pub spare : length c.chain.spare ≡ length c.chain.nodes
  pub newer : length c.bins.newer ≡ length c.chain.nodes
  pub older : length c.bins.older ≡ length c.chain.nodes
  pub heads : length c.bins.heads ≡ 256
  pub masks : length c.bins.masks ≡ 4
  pub within : length c.chain.nodes ≤ c.chain.reserved
  pub limit : c.chain.reserved < max
  pub word : max ≤ 4294967295
  pub flags : (x : ℕ) → x < length c.chain.nodes → (node c.chain x).used ≡ eqb (slice_index c.bins.newer x) (max - 1)

-- memory for `limit` nodes, and one of them made, which is blank
pub record IsBare (limit : ℕ) (c : ChainCells) : Type 0 where
  pub nodes : c.nodes ≡ blank ∷ []
  pub spare : c.spare ≡ 0 ∷ []
  pub reserved : c.reserved ≡ limit

-- no bin has a name
pub record AreEmpty (max : ℕ) (k : BinCells) : Type 0 where
  pub heads : k.heads ≡ replicate 256 max
  pub masks : k.masks ≡ replicate 4 0
