-- What contracts see of the fields of the two layouts.
use Rattle.std.specs.Prelude.{ℕ, zero, suc, List, [], ◌∷◌, ◌≡◌, ◌-◌, ◌<◌, ◌≤◌, eqb, map, length, slice_index}
use Rattle.std.specs.Vec.{vec_capacity}
use Rattle.offset_allocator.specs.Cells.{Cells, Node, link_of}
use Rattle.offset_allocator.specs.declared.layouts.by_node.Node.{Node as Entry}
use Rattle.offset_allocator.specs.declared.layouts.by_node.ByNode.TheInside.{Inside as NodesInside}
use Rattle.offset_allocator.specs.declared.layouts.by_field.ByField.TheInside.{Inside as FieldsInside}

-- what the chain of blocks sees of an entry
abbrev pub node_of : {A : Type 0} → ℕ → (A → ℕ) → Entry A → Node
node_of max number n = record {
  offset = n.offset;
  size = n.size;
  used = eqb (number n.newer) (max - 1);
  before = link_of max (number n.before);
  after = link_of max (number n.after);
}

-- the nodes that these entries hold
unfoldable pub nodes_of : {A : Type 0} → ℕ → (A → ℕ) → List (Entry A) → List Node
nodes_of max number ns = map (node_of max number) ns

-- the cells of these entries, with this stack, memory, heads and masks
abbrev pub cells_of : {A : Type 0} → ℕ → (A → ℕ) → List (Entry A) → List ℕ → ℕ → List ℕ → List ℕ → Cells
cells_of max number ns spare reserved heads masks = record {
  chain = record { nodes = nodes_of max number ns; spare = spare; reserved = reserved };
  bins = record {
    newer = map (λ n. number n.newer) ns;
    older = map (λ n. number n.older) ns;
    heads = heads;
    masks = masks;
  };
}

-- the cells of one table of nodes
abbrev pub cells_by_node : {A B : Type 0} → ℕ → (A → ℕ) → NodesInside A B → Cells
cells_by_node max number t = cells_of max number t.nodes.items (map number t.spare.items) (vec_capacity t.nodes) t.heads t.masks

-- the nodes and the stack have one length, and memory for as many; there are 256 heads and 4 masks
pub record AreEven {A B : Type 0} (max : ℕ) (t : NodesInside A B) : Type 0 where
  pub spare : length t.spare.items ≡ length t.nodes.items
  pub heads : length t.heads ≡ 256
  pub masks : length t.masks ≡ 4
  pub within : length t.nodes.items ≤ vec_capacity t.nodes
  pub memory : vec_capacity t.spare ≡ vec_capacity t.nodes
  pub limit : vec_capacity t.nodes < max

-- a table for each field that the chain of blocks sees
pub record FieldTables : Type 0 where
  pub offset : List ℕ
  pub size : List ℕ
  pub before : List ℕ
  pub after : List ℕ
  pub newer : List ℕ

-- the node of a name: its entry in each table
abbrev pub node_in : ℕ → FieldTables → ℕ → Node
node_in max t x = record {
  offset = slice_index t.offset x;
  size = slice_index t.size x;
  used = eqb (slice_index t.newer x) (max - 1);
  before = link_of max (slice_index t.before x);
  after = link_of max (slice_index t.after x);
}

-- the first n values of f
abbrev pub values : {A : Type 0} → (ℕ → A) → ℕ → List A
values f zero = []
values f (suc n) = f 0 ∷ values (λ i. f (suc i)) n

-- the nodes that these tables hold
unfoldable pub nodes_in : ℕ → FieldTables → List Node
nodes_in max t = values (node_in max t) (length t.offset)

-- the tables of the fields, as numbers
abbrev pub field_tables : {A B : Type 0} → (A → ℕ) → FieldsInside A B → FieldTables
field_tables number t = record {
  offset = t.offset.items;
  size = t.size.items;
  before = map number t.before.items;
  after = map number t.after.items;
  newer = map number t.newer.items;
}

-- the cells of a table for each field
abbrev pub cells_by_field : {A B : Type 0} → ℕ → (A → ℕ) → FieldsInside A B → Cells
cells_by_field max number t = record {
  chain = record {
    nodes = nodes_in max (field_tables number t);
    spare = map number t.spare.items;
    reserved = vec_capacity t.offset;
  };
  bins = record {
    newer = map number t.newer.items;
    older = map number t.older.items;
    heads = t.heads;
    masks = t.masks;
  };
}

-- the tables of the fields and the stack have one length, and memory for as many; there are 256 heads and 4 masks
pub record AreLevel {A B : Type 0} (max : ℕ) (t : FieldsInside A B) : Type 0 where
  pub size : length t.size.items ≡ length t.offset.items
  pub before : length t.before.items ≡ length t.offset.items
  pub after : length t.after.items ≡ length t.offset.items
  pub newer : length t.newer.items ≡ length t.offset.items
  pub older : length t.older.items ≡ length t.offset.items
  pub spare : length t.spare.items ≡ length t.offset.items
  pub size_memory : vec_capacity t.size ≡ vec_capacity t.offset
  pub before_memory : vec_capacity t.before ≡ vec_capacity t.offset
  pub after_memory : vec_capacity t.after ≡ vec_capacity t.offset
  pub newer_memory : vec_capacity t.newer ≡ vec_capacity t.offset
  pub older_memory : vec_capacity t.older ≡ vec_capacity t.offset
  pub spare_memory : vec_capacity t.spare ≡ vec_capacity t.offset
  pub heads : length t.heads ≡ 256
  pub masks : length t.masks ≡ 4
  pub within : length t.offset.items ≤ vec_capacity t.offset
  pub limit : vec_capacity t.offset < max
