-- Runs of neighbouring blocks, and what it costs to make one free block of all free units of a run.
use Rattle.std.specs.Prelude.{◌≡◌, ℕ, ◌<◌, ◌≤◌, ◌⊎◌, true, false, List, [], ◌∷◌, ◌++◌, Option, Some, None, drop, sum}
use Rattle.offset_allocator.specs.declared.moves.room.RoomCost.{RoomCost}
use Rattle.offset_allocator.specs.View.{View, Block, count_named, ends_used, free_block, free_sizes, replace, starts_free, units, count_used, used_units}
use Rattle.offset_allocator.specs.Moving.Compacting.{Move, first_free, live, moves}
use Rattle.offset_allocator.specs.Names.{Renames, free_blocks}
use Rattle.offset_allocator.specs.Relations.{SameSpace, SameState}
use Rattle.std.specs.List.{FoldsTo}

-- neighbouring blocks, of which the first and the last are free
pub record IsRun (run bs : List Block) : Type 0 where
  pub front : List Block
  pub back : List Block
  pub is : bs ≡ front ++ (run ++ back)
  pub begins : starts_free run ≡ true
  pub ends : ends_used run ≡ false

-- what it costs to slide the live blocks of a run together: their units, and how many they are
abbrev pub cost_of : List Block → RoomCost
cost_of run = record { units = used_units run; ranges = count_used run }

-- a cost is at most another: it has fewer units, or as many and no more ranges
abbrev pub IsAtMost : RoomCost → RoomCost → Type 0
IsAtMost c d = (c.units < d.units) ⊎ ((c.units ≡ d.units) × (c.ranges ≤ d.ranges))

-- a cost is less than another: it has fewer units, or as many and fewer ranges
abbrev pub IsLess : RoomCost → RoomCost → Type 0
IsLess c d = (c.units < d.units) ⊎ ((c.units ≡ d.units) × (c.ranges < d.ranges))

-- each run of these blocks with at least `want` free units costs more than c
abbrev pub CostMore : ℕ → RoomCost → List Block → Type 0
CostMore want c bs = (run : List Block) → IsRun run bs → want ≤ sum (free_sizes run) → IsLess c (cost_of run)

-- the ranges that have to move, none where no run is found
abbrev pub ranges_of : Option RoomCost → ℕ
ranges_of None = 0
ranges_of (Some c) = c.ranges

-- the cost of a run with at least `want` free units, where no such run costs less; or nothing, where there is no such
-- run
abbrev pub IsLeastCost : ℕ → List Block → Option RoomCost → Type 0
IsLeastCost want bs None = (run : List Block) → IsRun run bs → sum (free_sizes run) < want
IsLeastCost want bs (Some c) =
    ((run : List Block) × IsRun run bs × (want ≤ sum (free_sizes run)) × (c ≡ cost_of run))
    × ((run : List Block) → IsRun run bs → want ≤ sum (free_sizes run) → IsAtMost c (cost_of run))

-- a run with at least `want` free units slides to its front, and each such run that begins later costs more. Its live
-- blocks keep their order, and its free units are one block after them, the newest of its bin, under the name of the first
-- free one; all else stays
pub record SlidesRun (want : ℕ) (v w : View) : Type 0 where
  pub front : List Block
  pub run : List Block
  pub back : List Block
  pub is : v.blocks ≡ front ++ (run ++ back)
  pub begins : starts_free run ≡ true
  pub ends : ends_used run ≡ false
  pub serves : want ≤ sum (free_sizes run)
  pub later : CostMore want (cost_of run) (drop 1 (run ++ back))
  pub name : ℕ
  pub below : name < v.max_allocs
  pub first : first_free run ≡ Some name
  pub names : Renames v (drop 1 (free_blocks run)) [] w
  pub absent : count_named name (front ++ (live run ++ back)) ≡ 0
  pub view : SameSpace (replace v front run (live run ++ free_block name (sum (free_sizes run)) ∷ []) back) w

-- room is made at a cost: where that has ranges, a run of this cost slides, and a closure is called with the moves of
-- its live blocks; else nothing changes
abbrev pub MakesRoom : {F : Type 0} → (F → Move → F → Type 0) → ℕ → View → F → Option RoomCost → View → F → Type 0
MakesRoom R want v f None w g = SameState v w × (g ≡ f)
MakesRoom R want v f (Some c) w g =
    (c.ranges ≡ 0 → SameState v w × (g ≡ f))
    × (1 ≤ c.ranges → (s : SlidesRun want v w) × (c ≡ cost_of s.run)
    × FoldsTo R f (moves (units s.front) (units s.front) s.run) g)
