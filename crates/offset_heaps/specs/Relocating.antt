-- Which heap takes a range of another one, which one is the emptiest, and the places of the live ranges of a heap.
use Rattle.std.specs.Prelude.{◌≡◌, ◌≢◌, ℕ, ◌+◌, ◌-◌, ◌*◌, ◌^◌, ◌<◌, ◌≤◌, ◌⊎◌, List, [], ◌∷◌, Option, Some, None, max, option_map, unwrap_or}
use Rattle.std.specs.Int.{IsGcd}
use Rattle.offset_allocator.specs.Reporting.Walking.{last_live, live_before}
use Rattle.offset_allocator.specs.Ranges.{Range}
use Rattle.offset_allocator.specs.Requests.{blocks_needed, units_needed}
use Rattle.offset_allocator.specs.View.{Handle, View, count_used}
use Rattle.offset_guarded.specs.Guard.{Guard, Ticket, ticket_at}
use Rattle.offset_heaps.specs.declared.limits.Limits.{Limits}
use Rattle.offset_heaps.specs.Heaps.{Heaps, IsLive, MustRaiseIn, heap_at, live_units_of, numbers, part, range_of, room_of, slot, step_at, total}
use Rattle.offset_heaps.specs.Places.{Place, place_of}

-- the units of a range, or 0 where there is none
abbrev pub units_in : Option Range → ℕ
units_in r = unwrap_or (option_map (λ (r : Range). r.size) r) 0

-- the units of the range of a place, or 0 where it is not live
abbrev pub size_of : Place → Heaps → ℕ
size_of p hs = units_in (range_of p hs)

-- where a range begins, or 0 where there is none
abbrev pub offset_in : Option Range → ℕ
offset_in r = unwrap_or (option_map (λ (r : Range). r.offset) r) 0

-- where the range of a place begins, or 0 where it is not live
abbrev pub offset_of : Place → Heaps → ℕ
offset_of p hs = offset_in (range_of p hs)

-- what the offset of the range of a place and the step of its heap have in common: each alignment that the range has, and
-- that was asked for, divides it
abbrev pub IsOwnAlign : Place → Heaps → ℕ → Type 0
IsOwnAlign p hs align = IsGcd (offset_of p hs) (step_at p.heap hs) align

-- the live units of the heap of a number
abbrev pub live_units_at : ℕ → Heaps → ℕ
live_units_at k hs = part live_units_of (heap_at k hs)

-- the square of the live units of a heap
abbrev pub square_of : Guard → ℕ
square_of g = live_units_of g * live_units_of g

-- the squares of the live units of all heaps, added up
abbrev pub squares : Heaps → ℕ
squares hs = total square_of hs.slots

-- how many live ranges a heap has
abbrev pub ranges_of : Guard → ℕ
ranges_of g = count_used g.space.blocks

-- the rank of a heap among n numbers: by its live units, and of as many the lower number comes first
abbrev pub rank : ℕ → ℕ → Guard → ℕ
rank n k g = n * live_units_of g + (n - k)

-- the rank of each of these heaps, whose numbers are k and those after it, for each of its live ranges, added up
abbrev pub ranks_from : ℕ → ℕ → List (Option Guard) → ℕ
ranks_from n k [] = 0
ranks_from n k (o ∷ slots) = part (λ g. ranges_of g * rank n k g) o + ranks_from n (k + 1) slots

-- those of all heaps, and what they are at most
abbrev pub ranks : Heaps → ℕ
ranks hs = ranks_from (numbers hs) 0 hs.slots

abbrev pub most_ranks : Heaps → ℕ
most_ranks hs = total ranges_of hs.slots * (numbers hs * 2 ^ 32)

-- a heap other than `own` takes a range of `own`, which has `live` live units: it has room for its units, or one unit where
-- it has none, and for the blocks; its node limit need not be raised for them; and it has at least as many live units. For
-- a range of no units, which adds nothing to them, it has more, or a lower number
pub record TakesUnits (limits : Limits) (own size align live : ℕ) (slots : List (Option Guard)) (k : ℕ) : Type 0 where
  pub other : k ≢ own
  pub room : max 1 (units_needed size align) ≤ room_of limits k (blocks_needed align) (slot k slots)
  pub stays : MustRaiseIn limits k (blocks_needed align) (slot k slots) → ⊥
  pub full : live ≤ part live_units_of (slot k slots)
  pub before : size ≡ 0 → (live < part live_units_of (slot k slots)) ⊎ (k < own)

-- a heap takes the range of a place, from a multiple of align on
abbrev pub TakesRange : Place → ℕ → Heaps → ℕ → Type 0
TakesRange p align hs k = IsLive p hs × TakesUnits hs.limits p.heap (size_of p hs) align (live_units_at p.heap hs) hs.slots k

-- it is the first one that does
abbrev pub IsTaker : Place → ℕ → Heaps → ℕ → Type 0
IsTaker p align hs k = TakesRange p align hs k × ((j : ℕ) → j < k → TakesRange p align hs j → ⊥)

-- none does
abbrev pub NoneTakes : Place → ℕ → Heaps → Type 0
NoneTakes p align hs = (k : ℕ) → TakesRange p align hs k → ⊥

-- a heap has a live range
abbrev pub HasLive : Option Guard → Type 0
HasLive None = ⊥
HasLive (Some g) = 1 ≤ count_used g.space.blocks

-- of the first n numbers whose heaps have a live range, it has the fewest live units, and is the last such
pub record IsEmptiest (n : ℕ) (slots : List (Option Guard)) (k : ℕ) : Type 0 where
  pub before : k < n
  pub live : HasLive (slot k slots)
  pub fewest : (j : ℕ) → j < n → HasLive (slot j slots) → part live_units_of (slot k slots) ≤ part live_units_of (slot j slots)
  pub last : (j : ℕ) → k < j → j < n → HasLive (slot j slots) → part live_units_of (slot k slots) < part live_units_of (slot j slots)

-- of the first n numbers none has a heap with a live range
abbrev pub NoneLive : ℕ → List (Option Guard) → Type 0
NoneLive n slots = (k : ℕ) → k < n → HasLive (slot k slots) → ⊥

-- the place that a handle has now in the heap of a number
abbrev pub place_in : ℕ → ℕ → Guard → Handle → Place
place_in k realm g h = place_of k realm (ticket_at h g)

-- the place of the live range that is found in the space of a heap, where there is one
abbrev pub found_in : (View → Option Handle) → ℕ → ℕ → Option Guard → Option Place
found_in find k realm None = None
found_in find k realm (Some g) = option_map (place_in k realm g) (find g.space)

-- the place of the live range that is the last one in its heap
abbrev pub last_live_in : ℕ → ℕ → Option Guard → Option Place
last_live_in k realm o = found_in last_live k realm o

-- the place of the live range directly before that of a ticket in its heap
abbrev pub live_before_in : ℕ → ℕ → Ticket → Option Guard → Option Place
live_before_in k realm t o = found_in (live_before t.name) k realm o
