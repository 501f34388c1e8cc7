-- What `compact_within` leaves: a compaction by whole steps that goes on from an offset, and stops within a budget.
use Rattle.std.specs.Prelude.{◌≡◌, ℕ, ◌+◌, ◌≤◌, ◌⊎◌, true, not, ◌&&◌, List, [], ◌∷◌, ◌++◌, Option, Some, None, length, nat_le, if◌then◌else◌}
use Rattle.std.specs.List.{FoldsTo}
use Rattle.offset_allocator.specs.declared.moves.over_frames.Progress.{Progress}
use Rattle.offset_allocator.specs.Moving.BySteps.{CanFollow, given_up, moves_by, stepped, used_up}
use Rattle.offset_allocator.specs.Moving.Compacting.{Move}
use Rattle.offset_allocator.specs.Names.{IsTaken, names_of}
use Rattle.offset_allocator.specs.Relations.{SameSpace, SameState}
use Rattle.offset_allocator.specs.View.{View, Block, free_block, replace, units, count_used, used_units}

-- the name of the first free block of at least a step that ends at an offset or behind it and has a block after it, of
-- blocks that begin at o
abbrev pub first_from : ℕ → ℕ → ℕ → List Block → Option ℕ
first_from s from o [] = None
first_from s from o (b ∷ []) = None
first_from s from o (b ∷ c ∷ bs) = if not b.used && (nat_le s b.size && nat_le from (o + b.size)) then Some b.name else first_from s from (o + b.size) (c ∷ bs)

-- the live blocks of these have at most u units, and are at most r; one alone may have more
abbrev pub IsWithin : ℕ → ℕ → List Block → Type 0
IsWithin u r bs = (count_used bs ≡ 1) ⊎ ((used_units bs ≤ u) × (count_used bs ≤ r))

-- the first of these blocks is live, and with it those before it are no longer within the budget; or there is none
abbrev pub StopsAt : ℕ → ℕ → List Block → List Block → Type 0
StopsAt u r bs [] = Unit {0}
StopsAt u r bs (b ∷ cs) = (b.used ≡ true) × (IsWithin u r (bs ++ b ∷ []) → ⊥)

-- where the first of blocks begins that begin at o, if there is one
abbrev pub start_of : ℕ → List Block → Option ℕ
start_of o [] = None
start_of o (b ∷ bs) = Some o

-- the run that slides: from the first free block on, as far as the budget goes
pub record IsRunWithin (s from u r : ℕ) (v : View) (front : List Block) (first : Block) (rest back : List Block) : Type 0 where
  pub is : v.blocks ≡ front ++ (first ∷ (rest ++ back))
  pub begins : first_from s from 0 v.blocks ≡ Some first.name
  pub within : IsWithin u r rest
  pub stops : StopsAt u r rest back

-- it slides to its front by whole steps, and what it gives up is one free block at its end, as where room is made
pub record SlidesWithin (s from u r : ℕ) (v w : View) (p : Progress) : Type 0 where
  pub front : List Block
  pub first : Block
  pub rest : List Block
  pub back : List Block
  pub reached : IsRunWithin s from u r v front first rest back
  pub progress : p ≡ record { units = used_units rest; ranges = count_used rest; next = start_of (units (front ++ first ∷ rest)) back }
  pub name : ℕ
  pub left : List ℕ
  pub taken : IsTaken (length v.blocks) v.unused name left
  pub names : w.unused ≡ left ++ names_of (used_up s (first ∷ rest))
  pub view : SameSpace (replace v front (first ∷ rest) (stepped s (first ∷ rest) ++ free_block name (given_up s (first ∷ rest)) ∷ []) back) w

-- a call: where `first_from` finds no block, nothing changes; where no free block can follow the run, it is refused
abbrev pub CompactsWithin : {F : Type 0} → (F → Move → F → Type 0) → ℕ → ℕ → ℕ → ℕ → View → F → Option Progress → View → F → Type 0
CompactsWithin R s from u r v f None w g =
    SameState v w × (g ≡ f)
    × ((front : List Block) × (first : Block) × (rest back : List Block) × IsRunWithin s from u r v front first rest back × (CanFollow s v (first ∷ rest) → ⊥))
CompactsWithin R s from u r v f (Some p) w g =
    ((first_from s from 0 v.blocks ≡ None) × (p ≡ record { units = 0; ranges = 0; next = None }) × SameState v w × (g ≡ f))
    ⊎ ((k : SlidesWithin s from u r v w p) × CanFollow s v (k.first ∷ k.rest) × FoldsTo R f (moves_by s (units k.front) (units k.front) (k.first ∷ k.rest)) g)
