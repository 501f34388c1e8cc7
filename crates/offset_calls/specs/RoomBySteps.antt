-- Making room by whole steps on the plain machine: the runs of blocks that would serve a request, and what the cheapest
-- costs.
use Rattle.std.specs.Prelude.{ℕ, ◌+◌, ◌-◌, Bool, not, ◌&&◌, List, [], ◌∷◌, length, Option, Some, None, option_map, nat_le, if◌then◌else◌}
use Rattle.offset_allocator.specs.declared.moves.room.RoomCost.{RoomCost}
use Rattle.offset_script.specs.Machine.{Block, State, is_free, ends_live}
use Rattle.offset_calls.specs.Room.{Split, from_first, cheaper, cost_of}
use Rattle.offset_calls.specs.Stepped.{given_up, used_up}

-- whether a run serves: it ends with a free block, gives up at least `want` units, and uses up at least `short` blocks
abbrev pub serves : ℕ → ℕ → ℕ → List Block → Bool
serves n want short run = not (ends_live run) && (nat_le want (given_up n run) && nat_le short (used_up n run))

-- the shortest run from the start of a list on that passes a test
abbrev pub shortest_that : (List Block → Bool) → List Block → Option Split
shortest_that test [] = None
shortest_that test (b ∷ bs) =
    if test (b ∷ []) then Some (record { front = []; run = b ∷ []; back = bs })
    else option_map (from_first b) (shortest_that (λ run. test (b ∷ run)) bs)

-- the cheapest run from a free block on that passes a test: of several the last one
abbrev pub cheapest_that : (List Block → Bool) → List Block → Option Split
cheapest_that test [] = None
cheapest_that test (b ∷ bs) = cheaper b (if is_free b.tag then shortest_that test (b ∷ bs) else None) (cheapest_that test bs)

-- how many blocks a run has to use up, so that there may be one of what it gives up, and then `more` others
abbrev pub blocks_short : ℕ → ℕ → ℕ → ℕ
blocks_short more limit blocks = (blocks + more + 2) - limit

-- the run that slides by steps of n units for a request, or nothing where none serves
abbrev pub cheapest_by : ℕ → ℕ → ℕ → State → Option Split
cheapest_by n want more s = cheapest_that (serves n want (blocks_short more s.limit (length s.blocks))) s.blocks

-- what it costs
abbrev pub room_cost_by : ℕ → ℕ → ℕ → State → Option RoomCost
room_cost_by n want more s = option_map (λ (p : Split). cost_of p.run) (cheapest_by n want more s)
