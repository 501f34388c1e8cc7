-- Bytes as numbers of 64 bits, and their checksum.
use Rattle.std.specs.Prelude.{ℕ, zero, suc, ◌+◌, ◌*◌, ◌%◌, List, [], ◌∷◌, take, drop}
use Rattle.std.specs.Int.{w64, from_le_bytes}

-- the number of 64 bits at a place, the lowest byte first
abbrev pub number_at : List ℕ → ℕ → ℕ
number_at bytes i = from_le_bytes w64 (take 8 (drop (8 * i) bytes))

-- the first n numbers of 64 bits
abbrev pub numbers : ℕ → List ℕ → List ℕ
numbers zero bytes = []
numbers (suc n) bytes = from_le_bytes w64 (take 8 bytes) ∷ numbers n (drop 8 bytes)

-- the checksum of numbers, from one of those before
abbrev pub checksum_from : ℕ → List ℕ → ℕ
checksum_from s [] = s
checksum_from s (n ∷ ns) = checksum_from ((s * 1099511628211 + n) % 18446744073709551616) ns
