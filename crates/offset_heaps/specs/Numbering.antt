-- Which numbers have heaps, and the live places of all heaps, one after another.
use Rattle.std.specs.Prelude.{◌≡◌, ℕ, ◌+◌, ◌<◌, ◌≤◌, Bool, ◌&&◌, List, [], ◌∷◌, ◌++◌, Option, None, Some, IsSome, drop, is_some, map, nat_eq}
use Rattle.std.specs.Option.{option_or}
use Rattle.offset_allocator.specs.Reporting.Walking.{first_live, live_after, live_handles}
use Rattle.offset_allocator.specs.View.{one, tally}
use Rattle.offset_guarded.specs.Guard.{Guard, Ticket}
use Rattle.offset_heaps.specs.Heaps.{Heaps, heap_at, range_of, slot}
use Rattle.offset_heaps.specs.Places.{Place, ticket_of}
use Rattle.offset_heaps.specs.Relocating.{found_in, place_in}

-- from a number on, no other has a heap
abbrev pub NoHeapFrom : ℕ → List (Option Guard) → Type 0
NoHeapFrom n slots = (k : ℕ) → n ≤ k → slot k slots ≡ None

-- from a number on, this one is the first that has a heap
pub record IsHeapFrom (n : ℕ) (slots : List (Option Guard)) (k : ℕ) : Type 0 where
  pub from : n ≤ k
  pub heap : IsSome (slot k slots)
  pub first : (j : ℕ) → n ≤ j → j < k → slot j slots ≡ None

-- the place of the live range that is the first one in its heap
abbrev pub first_live_in : ℕ → ℕ → Option Guard → Option Place
first_live_in k realm o = found_in first_live k realm o

-- the place of the live range directly after that of a ticket in its heap
abbrev pub live_after_in : ℕ → ℕ → Ticket → Option Guard → Option Place
live_after_in k realm t o = found_in (live_after t.name) k realm o

-- the first live place of these heaps, whose numbers are k and those after it
abbrev pub first_among : ℕ → ℕ → List (Option Guard) → Option Place
first_among k realm [] = None
first_among k realm (o ∷ slots) = option_or (first_live_in k realm o) (first_among (k + 1) realm slots)

-- the first live place of the heaps from a number on
abbrev pub first_from : ℕ → Heaps → Option Place
first_from k hs = first_among k hs.realm (drop k hs.slots)

-- the live place after this one: in its heap, or else the first one of the heaps behind it
abbrev pub next_place : Place → Heaps → Option Place
next_place p hs = option_or (live_after_in p.heap hs.realm (ticket_of p) (heap_at p.heap hs)) (first_from (p.heap + 1) hs)

-- the places of the live ranges of a heap, in space order
abbrev pub places_in : ℕ → ℕ → Option Guard → List Place
places_in k realm None = []
places_in k realm (Some g) = map (place_in k realm g) (live_handles g.space)

-- those of these heaps, whose numbers are k and those after it
abbrev pub places_from : ℕ → ℕ → List (Option Guard) → List Place
places_from k realm [] = []
places_from k realm (o ∷ slots) = places_in k realm o ++ places_from (k + 1) realm slots

-- the places of all live ranges, by the numbers of their heaps, and in a heap in space order
abbrev pub live_places : Heaps → List Place
live_places hs = places_from 0 hs.realm hs.slots

-- a walk meets these places, one after another, and ends
abbrev pub MeetsPlaces : (Place → Option Place) → Option Place → List Place → Type 0
MeetsPlaces next at [] = at ≡ None
MeetsPlaces next at (p ∷ ps) = (at ≡ Some p) × MeetsPlaces next (next p) ps

-- whether two places are of one grant
abbrev pub is_alike : Place → Place → Bool
is_alike p q = nat_eq p.heap q.heap && (nat_eq p.realm q.realm
    && (nat_eq p.heap_realm q.heap_realm && (nat_eq p.serial q.serial && nat_eq p.name q.name)))

-- each live place is among these once, and no other
abbrev pub AreOfLive : List Place → Heaps → Type 0
AreOfLive ps hs = (p : Place) → tally (λ (q : Place). one (is_alike p q)) ps ≡ one (is_some (range_of p hs))
