-- The copies of a move, one after the other.
use Rattle.std.specs.Prelude.{ℕ, zero, suc, ◌+◌, ◌-◌, ◌<◌, ◌≤◌, ◌&&◌, List, [], ◌∷◌, min, nat_eq, nat_le, nat_lt, if◌then◌else◌}
use Rattle.std.specs.List.{AllByRecursion}
use Rattle.offset_allocator.specs.declared.moves.pieces.Piece.{Piece}

-- pieces of `most` units, and at last of what is left, that together copy n units from one offset on to another one on;
-- there are at most k of them
abbrev pub pieces : ℕ → ℕ → ℕ → ℕ → ℕ → List Piece
pieces zero most from to n = []
pieces (suc k) most from to n = if nat_eq n 0 then [] else record { from = from; to = to; size = min most n } ∷ pieces k most (from + min most n) (to + min most n) (n - min most n)

-- what units hold once a piece is copied
abbrev pub copied : Piece → (ℕ → ℕ) → ℕ → ℕ
copied p held i = if nat_le p.to i && nat_lt i (p.to + p.size) then held (i + (p.from - p.to)) else held i

-- what units hold once all pieces are copied, one after the other
abbrev pub all_copied : List Piece → (ℕ → ℕ) → ℕ → ℕ
all_copied [] held = held
all_copied (p ∷ ps) held = all_copied ps (copied p held)

-- each has some units, and at most `most`, reads none of those that it writes, and writes none that a later one reads
abbrev pub ArePieces : ℕ → List Piece → Type 0
ArePieces most [] = Unit {0}
ArePieces most (p ∷ ps) = (0 < p.size) × (p.size ≤ most) × (p.to + p.size ≤ p.from) × AllByRecursion (λ q. p.to + p.size ≤ q.from) ps × ArePieces most ps
