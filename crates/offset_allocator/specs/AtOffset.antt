-- Requests at an offset that the caller names, and what is there.
use Rattle.std.specs.Prelude.{◌≡◌, ℕ, ◌+◌, ◌-◌, ◌<◌, ◌≤◌, ◌&&◌, Bool, false, List, ◌∷◌, ◌++◌, Option, None, Some, is_some, max, min, nat_lt, option_and_then}
use Rattle.std.specs.List.{AllByRecursion, find}
use Rattle.offset_allocator.specs.Classes.{value, down}
use Rattle.offset_allocator.specs.Relations.{SameState, Splits}
use Rattle.offset_allocator.specs.Reporting.Listing.{Placed, listing, placed}
use Rattle.offset_allocator.specs.Requests.{AdmitsBlocks}
use Rattle.offset_allocator.specs.Tight.{with_first}
use Rattle.offset_allocator.specs.View.{View, Handle, Place, units}

-- the block at a place holds the n units from an offset on
abbrev pub HoldsAt : ℕ → ℕ → Place → Type 0
HoldsAt offset n p = (units p.before ≤ offset) × (offset + n ≤ units p.before + p.block.size)

-- how many blocks are added where these units are taken of it: one for the units before them, and one for those after
-- them, where there are any
abbrev pub blocks_added : ℕ → ℕ → Place → ℕ
blocks_added offset n p = min 1 (offset - units p.before) + min 1 (units p.before + p.block.size - (offset + n))

-- a free block holds them
pub record IsFreeAt (offset n : ℕ) (v : View) : Type 0 where
  pub place : Place
  pub there : v.blocks ≡ place.before ++ (place.block ∷ place.after)
  pub free : place.block.used ≡ false
  pub holds : HoldsAt offset n place

-- and there is room for the blocks that are added, and for one at least, as for any grant
pub record CanGrantAt (offset n : ℕ) (v : View) : Type 0 where
  pub at : IsFreeAt offset n v
  pub room : AdmitsBlocks (max 1 (blocks_added offset n at.place)) v

-- each of some blocks that is free begins after the offset
abbrev pub BeginAfter : ℕ → List Placed → Type 0
BeginAfter offset bs = AllByRecursion (λ (b : Placed). b.handle ≡ None → offset < b.offset) bs

-- the units from the offset on are taken of the last free block that begins there or before: this is split as if it were
-- the newest of its bin
pub record GrantsAt (offset n : ℕ) (v w : View) (g : Handle) : Type 0 where
  pub at : IsFreeAt offset n v
  pub room : AdmitsBlocks (max 1 (blocks_added offset n at.place)) v
  pub last : BeginAfter offset (placed (units at.place.before + at.place.block.size) at.place.after)
  pub split : Splits (value (down at.place.block.size)) n (λ begin. offset - begin) (with_first (down at.place.block.size) at.place.block.name v) w g

-- a request for the n units from an offset on: it is refused where no free block holds them, or no room is for the blocks
abbrev pub AllocatesAt : ℕ → ℕ → View → View → Option Handle → Type 0
AllocatesAt offset n v w None = (CanGrantAt offset n v → ⊥) × SameState v w
AllocatesAt offset n v w (Some g) = GrantsAt offset n v w g

-- a used block has one of the n units from an offset on, or lies among them
abbrev pub is_in_the_way : ℕ → ℕ → Placed → Bool
is_in_the_way offset n b = is_some b.handle && nat_lt b.offset (offset + n) && nat_lt offset (b.offset + b.size)

-- the handle of the last live range that is in the way of these units
abbrev pub in_the_way : ℕ → ℕ → View → Option Handle
in_the_way offset n v = option_and_then (λ (b : Placed). b.handle) (find (is_in_the_way offset n) (listing v))
