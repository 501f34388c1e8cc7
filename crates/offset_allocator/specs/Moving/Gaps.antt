-- The chain without one of its free blocks, while others slide over its units.
use Rattle.std.specs.Prelude.{◌≡◌, ℕ, ◌+◌, ◌^◌, ◌<◌, ◌≤◌, false, ◌∷◌, ◌++◌, Option, Some, None, nat_lt, if◌then◌else◌, length, take}
use Rattle.offset_allocator.specs.declared.moves.gap.Gap.{Gap}
use Rattle.offset_allocator.specs.Cells.{ChainCells, node, link_of}
use Rattle.offset_allocator.specs.Chain.{IsRow, last_or}
use Rattle.offset_allocator.specs.View.{Place, count_named, times, units}

-- the tables have memory for `limit` nodes, and hold a chain except for the free block x at a place: no link leads to the node
-- of x, and the links that led there may lead anywhere
pub record HasGap (c : ChainCells) (limit last spare_count x : ℕ) (p : Place) : Type 0 where
  pub memory : c.reserved ≡ limit
  pub within : length c.nodes ≤ limit
  pub stack : length c.spare ≡ length c.nodes
  pub front : (q : Option ℕ) × IsRow c None 0 p.before q
  pub back : (q : Option ℕ) × IsRow c q (units p.before + p.block.size) p.after None
  pub ends : last_or (Some last) p.after ≡ Some last
  pub each : (k : ℕ) → count_named k (p.before ++ p.block ∷ p.after) + times k (take spare_count c.spare)
      ≡ (if nat_lt k (length c.nodes) then 1 else 0)
  pub idle : (k : ℕ) → count_named k (p.before ++ p.block ∷ p.after) ≡ 0 → (node c k).used ≡ false
  pub full : length (p.before ++ p.block ∷ p.after) + spare_count ≡ length c.nodes
  pub fits : units (p.before ++ p.block ∷ p.after) < 2 ^ 32
  pub name : p.block.name ≡ x
  pub free : p.block.used ≡ false
  pub gone : (node c x).used ≡ false

-- this is that block, in numbers
pub record IsGap {A B : Type 0} (max : ℕ) (number : A → ℕ) (gap : Gap A B) (c : ChainCells) (limit last spare_count : ℕ) (p : Place)
    : Type 0 where
  pub there : HasGap c limit last spare_count gap.name p
  pub offset : gap.offset ≡ units p.before
  pub size : gap.size ≡ p.block.size
  pub link : link_of max (number gap.before) ≡ last_or None p.before
