-- What `compact_by` leaves: each live range moves by whole steps, so that it keeps what its offset leaves of one.
use Rattle.std.specs.Prelude.{◌≡◌, ◌≢◌, ℕ, ◌+◌, ◌-◌, ◌%◌, ◌<◌, ◌≤◌, ◌⊎◌, Bool, true, false, not, ◌&&◌, List, [], ◌∷◌, ◌++◌, Option, Some, None, length, nat_eq, nat_le, if◌then◌else◌}
use Rattle.std.specs.List.{AllByRecursion}
use Rattle.offset_allocator.specs.Chain.{last_or}
use Rattle.offset_allocator.specs.Moving.Compacting.{Move, move_of}
use Rattle.offset_allocator.specs.Names.{IsTaken, names_of}
use Rattle.offset_allocator.specs.Relations.{SameSpace, SameState}
use Rattle.offset_allocator.specs.Requests.{AdmitsBlocks}
use Rattle.offset_allocator.specs.View.{View, AreInBins, Block, free_block, free_part, replace}

-- what a free block of n units keeps, which has these blocks after it: what whole steps leave of it, or 0 where the list
-- ends with it
abbrev pub kept : ℕ → ℕ → List Block → ℕ
kept s n [] = 0
kept s n (b ∷ bs) = n % s

-- the used ones of blocks, and between them what the free ones keep
abbrev pub stepped : ℕ → List Block → List Block
stepped s [] = []
stepped s (b ∷ bs) = (if b.used then b ∷ [] else free_part b.name (kept s b.size bs)) ++ stepped s bs

-- the units that the free ones give up
abbrev pub given_up : ℕ → List Block → ℕ
given_up s [] = 0
given_up s (b ∷ bs) = (if b.used then 0 else b.size - kept s b.size bs) + given_up s bs

-- the free ones that keep nothing, whose names become unused (none of them is `used`)
abbrev pub used_up : ℕ → List Block → List Block
used_up s [] = []
used_up s (b ∷ bs) = (if not b.used && nat_eq (kept s b.size bs) 0 then b ∷ [] else []) ++ used_up s bs

-- the moves of the used ones of blocks that begin at `from`, where they are packed from `to` on, with what the free ones
-- keep between them
abbrev pub moves_by : ℕ → ℕ → ℕ → List Block → List Move
moves_by s from to [] = []
moves_by s from to (b ∷ bs) = if b.used then move_of from to b ++ moves_by s (from + b.size) (to + b.size) bs else moves_by s (from + b.size) (to + kept s b.size bs) bs

-- the blocks from the first free one of at least a step on that has a block after it: those that slide
abbrev pub run_by : ℕ → List Block → List Block
run_by s [] = []
run_by s (b ∷ []) = []
run_by s (b ∷ c ∷ bs) = if not b.used && nat_le s b.size then b ∷ c ∷ bs else run_by s (c ∷ bs)

-- a slide goes to the end of a run of blocks, which has this name, or to the end of the space
abbrev pub EndsAt : Option ℕ → List Block → List Block → Type 0
EndsAt None run back = back ≡ []
EndsAt (Some x) run back = last_or None run ≡ Some x

abbrev pub is_end : Option ℕ → ℕ → Bool
is_end None y = false
is_end (Some x) y = nat_eq y x

-- these are lists of the names of the free ones of blocks, by their classes: the bins, where the blocks are in bins
abbrev pub AreFiled : Bool → List Block → List (List ℕ) → List (List ℕ) → Type 0
AreFiled in_bins bs lists bins = AreInBins bs lists × (length lists ≡ 256) × (in_bins ≡ true → lists ≡ bins)

-- a free block can follow these blocks once they have slid: the node limit admits one more, or one of them is used up,
-- which gives its node back
abbrev pub CanFollow : ℕ → View → List Block → Type 0
CanFollow s v bs = AdmitsBlocks 1 v ⊎ (used_up s bs ≢ [])

-- from the first free block of at least a step on, each free block keeps what whole steps leave of its units, and the
-- units that they give up are one free block at the end. Each of these free blocks leaves its bin; what it keeps becomes
-- the newest block of the bin for its new size, one after the other in space order, and last of all the block at the end
pub record SlidesBy (s : ℕ) (v w : View) : Type 0 where
  pub front : List Block
  pub first : Block
  pub rest : List Block
  pub is : v.blocks ≡ front ++ first ∷ rest
  pub few : AllByRecursion (λ b. b.used ≡ false → b.size < s) front
  pub free : first.used ≡ false
  pub whole : s ≤ first.size
  pub more : rest ≢ []
  pub name : ℕ
  pub left : List ℕ
  pub taken : IsTaken (length v.blocks) v.unused name left
  pub names : w.unused ≡ left ++ names_of (used_up s (first ∷ rest))
  pub view : SameSpace (replace v front (first ∷ rest) (stepped s (first ∷ rest) ++ free_block name (given_up s (first ∷ rest)) ∷ []) []) w

-- a compaction by steps: where blocks slide, it is refused exactly if no free block can follow them; where none do, nothing
-- changes
abbrev pub CompactsBy : ℕ → View → View → Bool → Type 0
CompactsBy s v w true = ((run_by s v.blocks ≡ []) × SameState v w) ⊎ (CanFollow s v (run_by s v.blocks) × SlidesBy s v w)
CompactsBy s v w false = (run_by s v.blocks ≢ []) × (CanFollow s v (run_by s v.blocks) → ⊥) × SameState v w
