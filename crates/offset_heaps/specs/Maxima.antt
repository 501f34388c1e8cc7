-- Keys in a row, one for each number from 0 on: the first and the last number whose key is large enough are found in few
-- steps.
use Rattle.std.specs.Prelude.{◌≡◌, ℕ, ◌+◌, ◌-◌, ◌*◌, ◌^◌, ◌<◌, ◌≤◌, max, sum, List, length, Option, Some, None, slice_index_or}

-- the keys, and how many levels of maxima are above them
pub record Row : Type 0 where
  pub keys : List ℕ
  pub height : ℕ

-- the key of a number, or 0 behind the last
abbrev pub cell : ℕ → List ℕ → ℕ
cell k cells = slice_index_or cells k 0

-- every key of a row is smaller than n
abbrev pub AreBelow : ℕ → List ℕ → Type 0
AreBelow n keys = (i : ℕ) → cell i keys < n

-- the first number whose key is at least n, if there is one
abbrev pub IsFirst : ℕ → List ℕ → Option ℕ → Type 0
IsFirst n keys None = AreBelow n keys
IsFirst n keys (Some i) = (i < length keys) × (n ≤ cell i keys) × ((j : ℕ) → j < i → cell j keys < n)

-- the last number whose key is at least n, if there is one
abbrev pub IsLast : ℕ → List ℕ → Option ℕ → Type 0
IsLast n keys None = AreBelow n keys
IsLast n keys (Some i) = (i < length keys) × (n ≤ cell i keys) × ((j : ℕ) → i < j → cell j keys < n)

-- each key is 0 or 1, and `marked` of them are 1
pub record AreMarks (marked : ℕ) (keys : List ℕ) : Type 0 where
  pub count : marked ≡ sum keys
  pub small : (i : ℕ) → cell i keys ≤ 1

-- the cells from 1 on are a tree: below cell k are the cells 2 k and 2 k + 1, of which it is the larger
pub record IsTree (height : ℕ) (cells : List ℕ) : Type 0 where
  pub wide : length cells ≡ 2 * 2 ^ height
  pub low : height ≤ 32
  pub over : (k : ℕ) → 1 ≤ k → k < 2 ^ height → cell k cells ≡ max (cell (2 * k) cells) (cell (2 * k + 1) cells)

-- the same, but that the cell above a place may differ
pub record IsTreeBut (place height : ℕ) (cells : List ℕ) : Type 0 where
  pub wide : length cells ≡ 2 * 2 ^ height
  pub low : height ≤ 32
  pub over : (k : ℕ) → 1 ≤ k → k < 2 ^ height → (2 * k ≡ place → ⊥) → (2 * k + 1 ≡ place → ⊥) → cell k cells ≡ max (cell (2 * k) cells) (cell (2 * k + 1) cells)

-- of the cells of a level, this one is the first that is large enough
pub record IsFirstInLevel (least level place : ℕ) (cells : List ℕ) : Type 0 where
  pub from : 2 ^ level ≤ place
  pub to : place < 2 * 2 ^ level
  pub enough : least ≤ cell place cells
  pub left : (j : ℕ) → 2 ^ level ≤ j → j < place → cell j cells < least

-- of the cells of a level, this one is the last that is large enough
pub record IsLastInLevel (least level place : ℕ) (cells : List ℕ) : Type 0 where
  pub from : 2 ^ level ≤ place
  pub to : place < 2 * 2 ^ level
  pub enough : least ≤ cell place cells
  pub right : (j : ℕ) → place < j → j < 2 * 2 ^ level → cell j cells < least

-- a cell of the tree, that many levels above the numbers
pub record IsAbove (height level place : ℕ) : Type 0 where
  pub from : 2 ^ (height - level) ≤ place
  pub to : place < 2 * 2 ^ (height - level)
