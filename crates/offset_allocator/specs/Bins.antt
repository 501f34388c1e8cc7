-- The 256 bins, as links in tables, where `max`, the largest number, is no link, and the masks that say which are not
-- empty.
use Rattle.std.specs.Prelude.{ℕ, ◌+◌, ◌≡◌, ◌≢◌, ◌<◌, ◌≤◌, ◌/◌, ◌%◌, ◌^◌, if◌then◌else◌, min, nat_eq, zero, suc, List, [], ◌∷◌, Option, Some, None, map, length, slice_index}
use Rattle.std.specs.Int.{bit_at}
use Rattle.offset_allocator.specs.Cells.{BinCells}
use Rattle.offset_allocator.specs.View.{Block, bin_at, count_named, times}

-- the names from h on, along the links to older names
unfoldable pub names_from : ℕ → List ℕ → ℕ → ℕ → List ℕ
names_from max older zero h = []
names_from max older (suc k) h = if nat_eq h max then [] else h ∷ names_from max older k (slice_index older h)

-- the bins in the tables: of each class, newest first
unfoldable pub bins_in : ℕ → BinCells → List (List ℕ)
bins_in max t = map (names_from max t.older (length t.older)) t.heads

-- a name is in a list
abbrev pub IsAmong : ℕ → List ℕ → Type 0
IsAmong x xs = 1 ≤ times x xs

-- the first of the names, or the number that is no name
abbrev pub first_of : ℕ → List ℕ → ℕ
first_of max [] = max
first_of max (x ∷ xs) = x

-- the names are linked back and forth; b is newer than the first, and none is older than the last
abbrev pub IsLinked : ℕ → BinCells → ℕ → List ℕ → Type 0
IsLinked max t b [] = Unit {0}
IsLinked max t b (x ∷ xs) = (x < length t.newer) × (slice_index t.newer x ≡ b) × (slice_index t.older x ≡ first_of max xs) × IsLinked max t x xs

-- a walk along a bin of total names has met n, and comes to this name next, or to the number that is no name
pub record IsTail (max : ℕ) (t : BinCells) (name n total : ℕ) : Type 0 where
  pub before : ℕ
  pub names : List ℕ
  pub links : IsLinked max t before names
  pub is : name ≡ first_of max names
  pub counted : n + length names ≡ total

-- bit c of the masks says whether the bin of class c has a name, and bit w of the top mask whether mask w has a bit
pub record AreMasks (ls : List (List ℕ)) (masks : List ℕ) (top : ℕ) : Type 0 where
  pub masks_len : length masks ≡ 4
  pub bits : (c : ℕ) → c < 256 → bit_at (slice_index masks (c / 64)) (c % 64) ≡ min 1 (length (bin_at ls c))
  pub tops : (w : ℕ) → w < 4 → bit_at top w ≡ min 1 (slice_index masks w)
  pub top_small : top < 16
  pub words_small : (w : ℕ) → w < 4 → slice_index masks w < 2 ^ 64

-- the tables hold the lists ls, which have each name at most once
pub record HasBins (max : ℕ) (t : BinCells) (ls : List (List ℕ)) : Type 0 where
  pub older_len : length t.older ≡ length t.newer
  pub names_small : length t.newer ≤ max
  pub heads_len : length t.heads ≡ 256
  pub lists_len : length ls ≡ 256
  pub heads : (c : ℕ) → c < 256 → slice_index t.heads c ≡ first_of max (bin_at ls c)
  pub links : (c : ℕ) → c < 256 → IsLinked max t max (bin_at ls c)
  pub once : (c d x : ℕ) → c < 256 → d < 256 → c ≢ d → times x (bin_at ls c) + times x (bin_at ls d) ≤ 1

-- no list has the name
abbrev pub IsUnlisted : ℕ → List (List ℕ) → Type 0
IsUnlisted x ls = (c : ℕ) → c < 256 → IsAmong x (bin_at ls c) → ⊥

-- the bins have no names but those of these blocks
abbrev pub ListsOnly : List Block → List (List ℕ) → Type 0
ListsOnly bs ls = (y : ℕ) → count_named y bs ≡ 0 → IsUnlisted y ls

-- the smallest class from low on whose bin has a name, or none where all these are empty
abbrev pub IsFoundFrom : ℕ → List (List ℕ) → Option ℕ → Type 0
IsFoundFrom low ls None = (c : ℕ) → low ≤ c → c < 256 → bin_at ls c ≡ []
IsFoundFrom low ls (Some c) = (low ≤ c) × (c < 256) × (bin_at ls c ≡ [] → ⊥) × ((d : ℕ) → low ≤ d → d < c → bin_at ls d ≡ [])

-- the largest class whose bin is not empty, or none where all are empty
abbrev pub IsFoundLast : List (List ℕ) → Option ℕ → Type 0
IsFoundLast ls None = (c : ℕ) → c < 256 → bin_at ls c ≡ []
IsFoundLast ls (Some c) = (c < 256) × (bin_at ls c ≡ [] → ⊥) × ((d : ℕ) → c < d → d < 256 → bin_at ls d ≡ [])

-- links and masks agree with the bins
pub record IsBinned (max : ℕ) (t : BinCells) (top : ℕ) : Type 0 where
  pub linked : HasBins max t (bins_in max t)
  pub masked : AreMasks (bins_in max t) t.masks top
