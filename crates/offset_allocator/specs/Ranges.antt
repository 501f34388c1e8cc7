-- The ranges of live handles, as their holders see them, and what a grant is.
use Rattle.std.specs.Prelude.{◌≡◌, ℕ, ◌+◌, ◌≤◌, ◌≢◌, ◌⊎◌, Option, Some, None, IsSome, if◌then◌else◌, option_and_then, option_map, unwrap_or}
use Rattle.offset_allocator.specs.View.{View, Handle, Place, place_of, units}

-- some units from an offset on
pub record Range : Type 0 where
  pub offset : ℕ
  pub size : ℕ

-- the range that a name holds: that of its block, where this is used
abbrev pub range_of : ℕ → View → Option Range
range_of x v = option_and_then (λ (p : Place). if p.block.used then Some (record { offset = units p.before; size = p.block.size }) else None) (place_of x v.blocks)

-- a name is live while it holds a range
abbrev pub IsLive : ℕ → View → Type 0
IsLive x v = IsSome (range_of x v)

-- the units that a name holds: 0 where it is not live
abbrev pub size_of : ℕ → View → ℕ
size_of x v = unwrap_or (option_map (λ (r : Range). r.size) (range_of x v)) 0

-- two ranges share no unit
abbrev pub AreDisjoint : Range → Range → Type 0
AreDisjoint r s = (r.offset + r.size ≤ s.offset) ⊎ (s.offset + s.size ≤ r.offset)

-- each live range stays where it is
abbrev pub KeepsRanges : View → View → Type 0
KeepsRanges v w = (x : ℕ) (r : Range) → range_of x v ≡ Some r → range_of x w ≡ Some r

-- all ranges but that of one name are as they were
abbrev pub KeepsOthers : ℕ → View → View → Type 0
KeepsOthers x v w = (y : ℕ) → y ≢ x → range_of y w ≡ range_of y v

-- what a grant of n units is
pub record Grants (n : ℕ) (v w : View) (h : Handle) : Type 0 where
  -- its name was not live
  pub not_live : range_of h.name v ≡ None
  -- the name holds exactly n units, from the offset on
  pub range : range_of h.name w ≡ Some (record { offset = h.offset; size = n })
  -- these lie in the space
  pub within : h.offset + n ≤ w.size
  -- and share no unit with a range that is live
  pub disjoint : (x : ℕ) (r : Range) → range_of x v ≡ Some r → AreDisjoint r (record { offset = h.offset; size = n })
  -- all other ranges stay, and no other name becomes live
  pub others : KeepsOthers h.name v w

-- all ranges are as they were
abbrev pub KeepsAll : View → View → Type 0
KeepsAll v w = (x : ℕ) → range_of x w ≡ range_of x v
