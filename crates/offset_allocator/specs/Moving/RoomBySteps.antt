-- What it costs to make room by whole steps, and what that leaves.
use Rattle.std.specs.Prelude.{◌≡◌, ℕ, ◌+◌, ◌-◌, ◌≤◌, true, false, List, [], ◌∷◌, ◌++◌, Option, Some, None, drop, length}
use Rattle.std.specs.List.{FoldsTo}
use Rattle.offset_allocator.specs.declared.moves.room.RoomCost.{RoomCost}
use Rattle.offset_allocator.specs.declared.moves.runs.Run.{Run}
use Rattle.offset_allocator.specs.Chain.{first_or, last_or}
use Rattle.offset_allocator.specs.Moving.BySteps.{given_up, moves_by, stepped, used_up}
use Rattle.offset_allocator.specs.Moving.Compacting.{Move}
use Rattle.offset_allocator.specs.Moving.Room.{IsAtMost, IsLess, IsRun, cost_of}
use Rattle.offset_allocator.specs.Names.{IsTaken, names_of}
use Rattle.offset_allocator.specs.Relations.{SameSpace, SameState}
use Rattle.offset_allocator.specs.View.{View, Block, ends_used, free_block, replace, starts_free, units}

-- how many names a run has to give up, so that there is one for its block of what it gives up and then room for k more
-- blocks
abbrev pub names_short : ℕ → View → ℕ
names_short k v = (length v.blocks + k + 2) - v.max_allocs

-- what a run gives up by steps of s units is enough: that many units, and that many names
pub record Serves (s want short : ℕ) (run : List Block) : Type 0 where
  pub units : want ≤ given_up s run
  pub names : short ≤ length (used_up s run)

-- the cost of a run that serves, where none that serves costs less; or nothing, where none serves
abbrev pub IsLeastCostBy : ℕ → ℕ → ℕ → List Block → Option RoomCost → Type 0
IsLeastCostBy s want short bs None = (run : List Block) → IsRun run bs → Serves s want short run → ⊥
IsLeastCostBy s want short bs (Some c) =
    ((run : List Block) × IsRun run bs × Serves s want short run × (c ≡ cost_of run))
    × ((run : List Block) → IsRun run bs → Serves s want short run → IsAtMost c (cost_of run))

-- each run of these blocks that serves costs more than c
abbrev pub CostMoreBy : ℕ → ℕ → ℕ → RoomCost → List Block → Type 0
CostMoreBy s want short c bs = (run : List Block) → IsRun run bs → Serves s want short run → IsLess c (cost_of run)

-- the last of the cheapest runs that serve: the names of its first and last block, and its cost; or nothing, where none
-- serves
abbrev pub IsCheapestBy : ℕ → ℕ → ℕ → List Block → Option Run → Type 0
IsCheapestBy s want short bs None = (run : List Block) → IsRun run bs → Serves s want short run → ⊥
IsCheapestBy s want short bs (Some r) =
    ((run : List Block) × (k : IsRun run bs) × Serves s want short run × (r.cost ≡ cost_of run)
    × (first_or None run ≡ Some r.first) × (last_or None run ≡ Some r.end)
    × CostMoreBy s want short r.cost (drop 1 (run ++ k.back)))
    × ((run : List Block) → IsRun run bs → Serves s want short run → IsAtMost r.cost (cost_of run))

-- a run that serves slides to its front by whole steps, and each such run that begins later costs more. The units that
-- its free blocks give up are one free block at its end. Each free block of the run leaves its bin; what it keeps becomes
-- the newest block of the bin for its new size, one after the other in space order, and last of all the block at the end.
-- All else stays
pub record SlidesRunBy (s want short : ℕ) (v w : View) : Type 0 where
  pub front : List Block
  pub run : List Block
  pub back : List Block
  pub is : v.blocks ≡ front ++ (run ++ back)
  pub begins : starts_free run ≡ true
  pub ends : ends_used run ≡ false
  pub serves : Serves s want short run
  pub later : CostMoreBy s want short (cost_of run) (drop 1 (run ++ back))
  pub name : ℕ
  pub left : List ℕ
  pub taken : IsTaken (length v.blocks) v.unused name left
  pub names : w.unused ≡ left ++ names_of (used_up s run)
  pub view : SameSpace (replace v front run (stepped s run ++ free_block name (given_up s run) ∷ []) back) w

-- room is made at a cost, by steps of s units: where that has ranges, a run of this cost slides, and a closure is called
-- with the moves of its live blocks; else nothing changes
abbrev pub MakesRoomBy : {F : Type 0} → (F → Move → F → Type 0) → ℕ → ℕ → ℕ → View → F → Option RoomCost → View → F → Type 0
MakesRoomBy R s want short v f None w g = SameState v w × (g ≡ f)
MakesRoomBy R s want short v f (Some c) w g =
    (c.ranges ≡ 0 → SameState v w × (g ≡ f))
    × (1 ≤ c.ranges → (k : SlidesRunBy s want short v w) × (c ≡ cost_of k.run)
    × FoldsTo R f (moves_by s (units k.front) (units k.front) k.run) g)
