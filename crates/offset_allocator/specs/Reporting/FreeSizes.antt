-- Free blocks by their sizes alone: the largest class value, and how many are of a class.
use Rattle.std.specs.Prelude.{ℕ, zero, suc, ◌+◌, ◌%◌, ◌^◌, max, List, [], ◌∷◌, ◌++◌, nat_eq, if◌then◌else◌}
use Rattle.offset_allocator.specs.Classes.{value, down}

-- the largest class value of a free block, or 0 where none is free
abbrev pub largest : List ℕ → ℕ
largest [] = 0
largest (n ∷ ns) = max (value (down n)) (largest ns)

-- how many free blocks are of class c
abbrev pub count_of : ℕ → List ℕ → ℕ
count_of c [] = 0
count_of c (n ∷ ns) = (if nat_eq (down n) c then 1 else 0) + count_of c ns

-- a class with its size, modulo 2 ^ 32, and the number of its free blocks
pub record Row : Type 0 where
  pub class : ℕ
  pub size : ℕ
  pub count : ℕ

-- the row of class c, where its count is above 0
abbrev pub row : ℕ → ℕ → List Row
row c zero = []
row c (suc count) = record { class = c; size = value c % 2 ^ 32; count = suc count } ∷ []

-- the rows of the classes below c, rising
abbrev pub rows_below : ℕ → List ℕ → List Row
rows_below zero ns = []
rows_below (suc c) ns = rows_below c ns ++ row c (count_of c ns)
