-- The bytes of ranges that move.
use Rattle.std.specs.Prelude.{ℕ, ◌≡◌, ◌+◌, ◌<◌, ◌≤◌, ⊤, List, length, slice_index_or, Option, Some, None}
use Rattle.std.specs.List.{CopiedTo, SameBelow, SameFrom}
use Rattle.offset_allocator.specs.Ranges.{Range}

-- one range of the bytes ys holds what another one of the bytes xs held; where one is not there, the other one is not
abbrev pub HasSameBytes : List ℕ → List ℕ → Option Range → Option Range → Type 0
HasSameBytes xs ys None None = ⊤
HasSameBytes xs ys None (Some s) = ⊥
HasSameBytes xs ys (Some r) None = ⊥
HasSameBytes xs ys (Some r) (Some s) = (s.size ≡ r.size)
    × ((i d : ℕ) → i < r.size → slice_index_or ys (s.offset + i) d ≡ slice_index_or xs (r.offset + i) d)

-- size bytes are copied to a smaller place, if they are within the buffer
pub record IsCopied (from to size : ℕ) (xs ys : List ℕ) : Type 0 where
  pub len : length ys ≡ length xs
  pub copied : to ≤ from → from + size ≤ length xs → CopiedTo xs ys from to size
  pub below : to ≤ from → from + size ≤ length xs → SameBelow xs ys to
  pub after : to ≤ from → from + size ≤ length xs → SameFrom xs ys (to + size)
