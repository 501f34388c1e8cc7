-- Making room on the plain machine: which run of blocks slides to its front, and what that costs.
use Rattle.std.specs.Prelude.{ℕ, ◌-◌, Bool, ◌&&◌, ◌||◌, List, [], ◌∷◌, ◌++◌, length, sum, Option, Some, None, option_map, nat_eq, nat_lt, nat_le, if◌then◌else◌}
use Rattle.offset_allocator.specs.declared.moves.room.RoomCost.{RoomCost}
use Rattle.offset_script.specs.Machine.{Free, Block, block, is_free, total, free_sizes}
use Rattle.offset_script.specs.Totals.{live}

-- a list of blocks, split before and after a run of them
pub record Split : Type 0 where
  pub front : List Block
  pub run : List Block
  pub back : List Block

-- a run at the start of a list, with b before it as its first block
abbrev pub from_first : Block → Split → Split
from_first b p = record { front = p.front; run = b ∷ p.run; back = p.back }

-- a run in a list, in the same list with b before it
abbrev pub after_first : Block → Split → Split
after_first b p = record { front = b ∷ p.front; run = p.run; back = p.back }

-- the free units of a block
abbrev pub free_units : Block → ℕ
free_units b = if is_free b.tag then b.size else 0

-- the shortest run from the start of a list on that has n free units
abbrev pub shortest : ℕ → List Block → Option Split
shortest n [] = None
shortest n (b ∷ bs) =
    if nat_le n (free_units b) then Some (record { front = []; run = b ∷ []; back = bs })
    else option_map (from_first b) (shortest (n - free_units b) bs)

-- what has to move where a run slides together: the units of its live blocks, and how many they are
abbrev pub cost_of : List Block → RoomCost
cost_of run = record { units = total (live run); ranges = length (live run) }

-- whether a cost is less than another: it has fewer units, or as many and fewer ranges
abbrev pub is_less : RoomCost → RoomCost → Bool
is_less c d = nat_lt c.units d.units || (nat_eq c.units d.units && nat_lt c.ranges d.ranges)

-- the cheaper run: that from the first block b on, or the one found among the blocks after it, also where both cost as
-- much
abbrev pub cheaper : Block → Option Split → Option Split → Option Split
cheaper b p None = p
cheaper b None (Some q) = Some (after_first b q)
cheaper b (Some p) (Some q) = if is_less (cost_of p.run) (cost_of q.run) then Some p else Some (after_first b q)

-- the cheapest run from a free block on that has n free units: of several the last one
abbrev pub cheapest : ℕ → List Block → Option Split
cheapest n [] = None
cheapest n (b ∷ bs) = cheaper b (if is_free b.tag then shortest n (b ∷ bs) else None) (cheapest n bs)

-- what it costs, or nothing where there is no run
abbrev pub room_cost : ℕ → List Block → Option RoomCost
room_cost n bs = option_map (λ (p : Split). cost_of p.run) (cheapest n bs)

-- the live blocks of the run slide to its front, and its free units are one block after them, with this stamp
abbrev pub slid : ℕ → Split → List Block
slid s p = p.front ++ (live p.run ++ (block (sum (free_sizes p.run)) (Free s) ∷ p.back))
