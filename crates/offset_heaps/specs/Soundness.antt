-- The index says what the heaps are.
use Rattle.std.specs.Prelude.{◌≡◌, ℕ, ◌+◌, ◌^◌, ◌<◌, ◌≤◌, List, Option, Some, None, IfSome, length, nat_lt, if◌then◌else◌}
use Rattle.offset_guarded.specs.Guard.{Guard}
use Rattle.offset_heaps.specs.declared.limits.Limits.{Limits}
use Rattle.offset_heaps.specs.declared.index.Index.{Index}
use Rattle.offset_heaps.specs.Heaps.{IsFirstLimit, IsFirstSize, IsOfKind, is_empty, room_of, slot, usual_room}
use Rattle.offset_heaps.specs.Maxima.{cell}

-- the key of the numbers of larger heaps: no heap grants that much
abbrev pub larger_key : ℕ
larger_key = 4294967295

-- the key of a number that no heap has: the largest request that its usual heap grants when it is fresh; or that key
abbrev pub spare_of : Limits → ℕ → Option Guard → ℕ
spare_of limits k None = if nat_lt k limits.most then usual_room limits k else (if nat_lt k (limits.most + limits.most_larger) then larger_key else 0)
spare_of limits k (Some g) = 0

-- the key of a number whose heap is empty
abbrev pub empty_key : Option Guard → ℕ
empty_key o = if is_empty o then 1 else 0

-- what the index has of a number
pub record IsNoted (limits : Limits) (slots : List (Option Guard)) (index : Index) (k : ℕ) : Type 0 where
  pub one : cell k index.one.keys ≡ room_of limits k 1 (slot k slots)
  pub two : cell k index.two.keys ≡ room_of limits k 2 (slot k slots)
  pub spare : cell k index.spare.keys ≡ spare_of limits k (slot k slots)
  pub empty : cell k index.empty.keys ≡ empty_key (slot k slots)

-- there is a key for each number, and all rows have as many levels
pub record IsWide (slots : List (Option Guard)) (index : Index) : Type 0 where
  pub one : length slots ≤ length index.one.keys
  pub two : length slots ≤ length index.two.keys
  pub spare : length slots ≤ length index.spare.keys
  pub empty : length slots ≤ length index.empty.keys
  pub level_two : index.two.height ≡ index.one.height
  pub level_spare : index.spare.height ≡ index.one.height
  pub level_empty : index.empty.height ≡ index.one.height

-- what is true of the fields between two calls
pub record IsSound (max : ℕ) (slots : List (Option Guard)) (limits : Limits) (made : ℕ) (index : Index) : Type 0 where
  pub wide : IsWide slots index
  pub noted : (k : ℕ) → IsNoted limits slots index k
  pub numbers : length slots ≡ limits.most + limits.most_larger
  pub few : length slots < 4294967296
  -- the index has no more levels than it needs
  pub low : (bits : ℕ) → length slots ≤ 2 ^ bits → index.one.height ≤ bits
  pub limit_min : 4 ≤ limits.max_allocs
  pub limit_max : limits.max_allocs + 1 < max
  pub limit_first : IsFirstLimit limits
  pub size_first : IsFirstSize limits
  -- the realm of a heap is not that of one that is made later
  pub realms : (k : ℕ) → IfSome (slot k slots) (λ g. g.realm ≤ made)
  -- each heap is of the kind of its number
  pub kinds : (k : ℕ) → IfSome (slot k slots) (IsOfKind limits k)
