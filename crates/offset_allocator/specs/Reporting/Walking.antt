-- The live ranges beside one another in space.
use Rattle.std.specs.Prelude.{◌≡◌, ℕ, ◌+◌, List, [], ◌∷◌, Option, None, Some, is_some, nat_eq, option_and_then, option_map, reverse, if◌then◌else◌}
use Rattle.std.specs.Option.{option_or}
use Rattle.offset_allocator.specs.Reporting.Listing.{Placed, placed, listing}
use Rattle.std.specs.List.{AllByRecursion}
use Rattle.offset_allocator.specs.Ranges.{Range, range_of}
use Rattle.offset_allocator.specs.View.{View, Block, Handle, Place, one, place_of, tally, units}

-- the handle of the first of these blocks that has one
abbrev pub first_handle : List Placed → Option Handle
first_handle [] = None
first_handle (b ∷ bs) = option_or b.handle (first_handle bs)

-- the first live range
abbrev pub first_live : View → Option Handle
first_live v = first_handle (placed 0 v.blocks)

-- the last live range
abbrev pub last_live : View → Option Handle
last_live v = first_handle (listing v)

-- the live range before that of a name, which is live too
abbrev pub live_before : ℕ → View → Option Handle
live_before x v = option_and_then (λ (p : Place). if p.block.used then first_handle (reverse (placed 0 p.before)) else None) (place_of x v.blocks)

-- the live range after that of a name, which is live too
abbrev pub live_after : ℕ → View → Option Handle
live_after x v = option_and_then (λ (p : Place). if p.block.used then first_handle (placed (units p.before + p.block.size) p.after) else None) (place_of x v.blocks)

-- the handles of the live ranges of some blocks, from an offset on
abbrev pub handles_from : ℕ → List Block → List Handle
handles_from offset [] = []
handles_from offset (b ∷ bs) = if b.used then record { name = b.name; offset = offset } ∷ handles_from (offset + b.size) bs else handles_from (offset + b.size) bs

-- the handles of all live ranges, in space order
abbrev pub live_handles : View → List Handle
live_handles v = handles_from 0 v.blocks

-- a walk: it meets these handles, one after another, and ends
abbrev pub IsWalk : (ℕ → Option Handle) → Option Handle → List Handle → Type 0
IsWalk next at [] = at ≡ None
IsWalk next at (h ∷ hs) = (at ≡ Some h) × IsWalk next (next h.name) hs

-- a handle has the offset of its range
abbrev pub HasOffset : View → Handle → Type 0
HasOffset v h = option_map (λ (r : Range). r.offset) (range_of h.name v) ≡ Some h.offset

-- these are the handles of the live ranges: each live name is among them once, and no other
pub record AreOfLive (hs : List Handle) (v : View) : Type 0 where
  pub once : (x : ℕ) → tally (λ (h : Handle). one (nat_eq x h.name)) hs ≡ one (is_some (range_of x v))
  pub offsets : AllByRecursion (HasOffset v) hs
