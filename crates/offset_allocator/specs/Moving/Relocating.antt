-- What `relocate` and `relocate_aligned` grant.
use Rattle.std.specs.Prelude.{◌≡◌, ℕ, ◌<◌, ◌≤◌, List, [], ◌∷◌, ◌++◌, Option, Some, None, option_map, unwrap_or}
use Rattle.offset_allocator.specs.Classes.{up, down}
use Rattle.offset_allocator.specs.Ranges.{Range, range_of, size_of}
use Rattle.offset_allocator.specs.Relations.{Aligns, Allocates, SameState}
use Rattle.offset_allocator.specs.Requests.{AdmitsBlocks, blocks_needed, units_needed}
use Rattle.offset_allocator.specs.View.{View, Block, Handle, bin_at, units}

-- where the range of a name begins: 0 where it is not live
abbrev pub offset_of : ℕ → View → ℕ
offset_of x v = unwrap_or (option_map (λ (r : Range). r.offset) (range_of x v)) 0

-- a request for n units would be granted from this offset on: there is room for one more block, and the newest block of
-- the smallest class that is large enough and has a block begins there
pub record WouldBegin (n : ℕ) (v : View) (offset : ℕ) : Type 0 where
  pub before : List Block
  pub block : Block
  pub after : List Block
  pub blocks : v.blocks ≡ before ++ (block ∷ after)
  pub room : AdmitsBlocks 1 v
  pub fits : up n ≤ down block.size
  pub smallest : (c : ℕ) → up n ≤ c → c < down block.size → bin_at v.bins c ≡ []
  pub older : List ℕ
  pub newest : bin_at v.bins (down block.size) ≡ block.name ∷ older
  pub begins : offset ≡ units before

-- a request for the units of x, where its grant begins before the range of x; nothing changes where it would not begin
-- before it, or be refused
abbrev pub Relocates : ℕ → View → View → Option Handle → Type 0
Relocates x v w None = ((o : ℕ) → WouldBegin (size_of x v) v o → offset_of x v ≤ o) × SameState v w
Relocates x v w (Some g) = Allocates (size_of x v) v w (Some g) × (g.offset < offset_of x v)

-- a request for the units of x from a multiple of align on, where the block that it takes begins before the range of x;
-- nothing changes where that would not begin before it, or the request be refused
abbrev pub RelocatesAligned : ℕ → ℕ → View → View → Option Handle → Type 0
RelocatesAligned x align v w None =
    ((o : ℕ) → AdmitsBlocks (blocks_needed align) v → WouldBegin (units_needed (size_of x v) align) v o → offset_of x v ≤ o) × SameState v w
RelocatesAligned x align v w (Some g) = (a : Aligns (size_of x v) align v w (Some g)) × (units a.1.before < offset_of x v)
