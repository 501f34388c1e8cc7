-- Ranges that become smaller or larger in place.
use Rattle.std.specs.Prelude.{◌≡◌, ◌≢◌, ℕ, ◌+◌, ◌<◌, ◌≤◌, ◌⊎◌, Bool, true, false, List, [], ◌∷◌, ◌++◌, Some, option_map, unwrap_or}
use Rattle.std.specs.List.{AllByRecursion}
use Rattle.offset_allocator.specs.View.{View, Block, Place, units, count_named, place_of, free_start, free_part, used_block, replace, AreCoalesced, IsNew}
use Rattle.offset_allocator.specs.Requests.{AdmitsBlocks}
use Rattle.offset_allocator.specs.Ranges.{Range, range_of, size_of}
use Rattle.offset_allocator.specs.Names.{Renames}
use Rattle.offset_allocator.specs.Relations.{SameSpace, SameState}

-- the free block directly after the block of a name, if there is one
abbrev pub free_after : ℕ → View → List Block
free_after x v = unwrap_or (option_map (λ (p : Place). free_start p.after) (place_of x v.blocks)) []

-- a range can shrink to n units: it has at least as many, and if it has more, there is a free block directly after it
-- or room for one more block
abbrev pub CanShrink : ℕ → ℕ → View → Type 0
CanShrink x n v = (n ≤ size_of x v) × (n < size_of x v → (free_after x v ≢ []) ⊎ AdmitsBlocks 1 v)

-- a range can grow to n units: it has at most as many, and the free block directly after it has those that it lacks
abbrev pub CanGrow : ℕ → ℕ → View → Type 0
CanGrow x n v = (size_of x v ≤ n) × (n ≤ size_of x v + units (free_after x v))

-- a range can have n units in place: those that it lacks are in the free block directly after it, and those that it gives
-- back go to that block, or there is room for one more
abbrev pub CanResize : ℕ → ℕ → View → Type 0
CanResize x n v = (n ≤ size_of x v + units (free_after x v)) × (n < size_of x v → (free_after x v ≢ []) ⊎ AdmitsBlocks 1 v)

-- a range has n units after the call, from the same offset on
abbrev pub HasUnits : ℕ → ℕ → View → View → Type 0
HasUnits x n v w = (r : Range) → range_of x v ≡ Some r → range_of x w ≡ Some (record r { size = n })

-- the used block named x and the free block directly after it, if there is one, become a used block of n units, named
-- x, and a free block of the units that are left, if any are
pub record Resizes (x n : ℕ) (v w : View) : Type 0 where
  pub before : List Block
  pub block : Block
  pub next : List Block
  pub after : List Block
  pub blocks : v.blocks ≡ before ++ ((block ∷ next) ++ after)
  pub named : block.name ≡ x
  pub used : block.used ≡ true
  pub free : AllByRecursion (λ b. b.used ≡ false) next
  pub left : ℕ
  pub whole : n + left ≡ units (block ∷ next)
  -- the free block has a name that no block has, or that of the free block that was there
  pub name : ℕ
  pub new : 1 ≤ left → (1 ≤ count_named name next) ⊎ IsNew name v
  pub names : Renames v next (free_part name left) w
  pub view : SameSpace (replace v before (block ∷ next) (used_block x n ∷ free_part name left) after) w
  -- afterwards no two free blocks are neighbours: so where units are left, next is the free block after it if there was
  -- one
  pub apart : AreCoalesced w.blocks

-- the one change of both calls: it is refused exactly where the range cannot have n units, and then nothing changes, nor
-- does it where the range has just as many
abbrev pub ResizesTo : ℕ → ℕ → View → View → Bool → Type 0
ResizesTo x n v w true = ((n ≡ size_of x v) × SameState v w) ⊎ ((n ≢ size_of x v) × CanResize x n v × Resizes x n v w)
ResizesTo x n v w false = (CanResize x n v → ⊥) × SameState v w

-- a call for fewer units: it is refused exactly where the range cannot shrink to them, and then nothing changes, nor
-- does it where the range has just as many
abbrev pub Shrinks : ℕ → ℕ → View → View → Bool → Type 0
Shrinks x n v w true = ((n ≡ size_of x v) × SameState v w) ⊎ ((n < size_of x v) × CanShrink x n v × Resizes x n v w)
Shrinks x n v w false = (CanShrink x n v → ⊥) × SameState v w

-- a call for more units
abbrev pub Grows : ℕ → ℕ → View → View → Bool → Type 0
Grows x n v w true = ((n ≡ size_of x v) × SameState v w) ⊎ ((size_of x v < n) × CanGrow x n v × Resizes x n v w)
Grows x n v w false = (CanGrow x n v → ⊥) × SameState v w
