-- What an iterator over the blocks yields.
use Rattle.std.specs.Prelude.{ℕ, ◌+◌, List, [], ◌∷◌, Option, Some, None, reverse, if◌then◌else◌}
use Rattle.offset_allocator.specs.declared.reports.blocks.Block.{Block as Yielded}
use Rattle.offset_allocator.specs.View.{View, Block, Handle}

-- a block at its place: where it begins, its units, and its handle where it is used
pub record Placed : Type 0 where
  pub offset : ℕ
  pub size : ℕ
  pub handle : Option Handle

-- a block that is yielded, whatever its index type
abbrev pub as_placed : {A B C : Type 0} → Yielded A B C → Placed
as_placed b = record { offset = b.offset; size = b.size; handle = b.allocation }

-- a block that begins at an offset
abbrev pub placed_at : ℕ → Block → Placed
placed_at offset b = record { offset = offset; size = b.size; handle = if b.used then Some (record { name = b.name; offset = offset }) else None }

-- blocks from an offset on, in space order: each begins where the one before it ends
abbrev pub placed : ℕ → List Block → List Placed
placed offset [] = []
placed offset (b ∷ bs) = placed_at offset b ∷ placed (offset + b.size) bs

-- the blocks of a space, from its end to its start
abbrev pub listing : View → List Placed
listing v = reverse (placed 0 v.blocks)
