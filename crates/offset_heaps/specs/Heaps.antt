-- What contracts see of many heaps, and what each call leaves of them.
use Rattle.std.specs.Prelude.{codes, ◌≡◌, ℕ, ◌+◌, ◌-◌, ◌*◌, ◌^◌, ◌<◌, ◌≤◌, ◌⊎◌, Bool, true, false, ◌&&◌, List, [], ◌∷◌, Option, Some, None, IsSome, Result, Err, length, nat_eq, nat_lt}
use Rattle.std.specs.Int.{◌∣◌}
use Rattle.std.specs.Prelude.{slice_index_or, slice_set, max, min, sum, if◌then◌else◌}
use Rattle.offset_allocator.specs.Classes.{value, down}
use Rattle.offset_allocator.specs.Ranges.{Range}
use Rattle.offset_allocator.specs.Relations.{IsFresh}
use Rattle.offset_allocator.specs.Reporting.FreeSizes.{largest}
use Rattle.offset_allocator.specs.Requests.{blocks_needed, units_needed}
use Rattle.offset_allocator.specs.View.{free_sizes, count_used, used_units}
use Rattle.offset_guarded.specs.Answers as tickets
use Rattle.offset_guarded.specs.Guard.{Guard, Ticket, last_serial}
use Rattle.offset_guarded.specs.Guard as guarded
use Rattle.offset_heaps.specs.declared.place.Granted.{Granted}
use Rattle.offset_heaps.specs.declared.limits.Limits.{Limits}
use Rattle.offset_heaps.specs.declared.totals.Totals.{Totals}
use Rattle.offset_heaps.specs.declared.refusal.Refusal.{Refusal}
use Rattle.offset_heaps.specs.declared.refusal.Refusal.TheVariants.{Empty, TooLarge, Full, Memory}
use Rattle.offset_heaps.specs.Places.{Place, ticket_from, ticket_of}

-- the last realm: the largest number of 32 bits
abbrev pub last_realm : ℕ
last_realm = 4294967295

-- how many blocks may exist in a larger heap, and one more
abbrev pub larger_limit : ℕ
larger_limit = 4

-- what contracts see of many heaps
pub record Heaps : Type 0 where
  -- the heap that has each number, where there is one: the usual ones, then the larger ones
  pub slots : List (Option Guard)
  pub limits : Limits
  -- the realm of the heap that was made last, or the number before the first: later heaps have the numbers after it
  pub made : ℕ
  pub realm : ℕ
  -- how often slots and the cells of the index were read or written
  pub accesses : ℕ

-- how many numbers there are
abbrev pub numbers : Heaps → ℕ
numbers hs = hs.limits.most + hs.limits.most_larger

-- few slots and cells of the index were read or written: 16 for each bit of the count of numbers, and 32
abbrev pub TakesFewAccesses : Heaps → Heaps → Type 0
TakesFewAccesses hs ks = (bits : ℕ) → numbers hs ≤ 2 ^ bits → ks.accesses ≤ hs.accesses + 16 * bits + 32

-- the heap of a number
abbrev pub slot : ℕ → List (Option Guard) → Option Guard
slot k slots = slice_index_or slots k None

-- the same of all heaps
abbrev pub heap_at : ℕ → Heaps → Option Guard
heap_at k hs = slot k hs.slots

-- the largest node limit that the heap of a number may have: that of a usual one is raised as its grants need nodes
abbrev pub top_limit : Limits → ℕ → Guard → ℕ
top_limit limits k g = if nat_lt k limits.most then limits.max_allocs else g.space.max_allocs

-- the largest request that the heap of a number grants where it may add this many blocks, or 0 where it grants none: under
-- its largest node limit, to which it is raised where the grant needs that. So for one block it is what its report would
-- have under that limit
abbrev pub room : Limits → ℕ → ℕ → Guard → ℕ
room limits k blocks g = if nat_lt g.given last_serial && nat_lt (length g.space.blocks + blocks) (top_limit limits k g) then largest (free_sizes g.space.blocks) else 0

-- the same of what a slot holds: 0 where it has no heap
abbrev pub room_of : Limits → ℕ → ℕ → Option Guard → ℕ
room_of limits k blocks None = 0
room_of limits k blocks (Some g) = room limits k blocks g

-- no heap has room for the blocks and units
abbrev pub NoneFits : ℕ → ℕ → Heaps → Type 0
NoneFits blocks units hs = (k : ℕ) → room_of hs.limits k blocks (heap_at k hs) < units

-- the heap of number k is the first that has room for the blocks and units
abbrev pub IsFirstFit : ℕ → ℕ → ℕ → Heaps → Type 0
IsFirstFit blocks units k hs = (units ≤ room_of hs.limits k blocks (heap_at k hs)) × ((j : ℕ) → j < k → room_of hs.limits j blocks (heap_at j hs) < units)

-- the units of the usual heap of a number: the first size, doubled that many times, and at most the largest one
abbrev pub usual_size : Limits → ℕ → ℕ
usual_size limits k = min (limits.first_size * 2 ^ k) limits.size

-- the largest request that it grants when it is fresh
abbrev pub usual_room : Limits → ℕ → ℕ
usual_room limits k = value (down (usual_size limits k))

-- a request is usual: the last usual heap, the largest, where there may be any, grants that many units when it is fresh. The
-- first range of a fresh heap begins at 0, a multiple of every alignment, so none is asked of it
abbrev pub IsUsual : ℕ → Heaps → Type 0
IsUsual size hs = (1 ≤ hs.limits.most) × (size ≤ usual_room hs.limits (hs.limits.most - 1))

-- a number that no heap has: one below most, whose usual heap has room for a request; and one of the others, for a larger
-- heap
abbrev pub IsSpareUsual : ℕ → ℕ → Heaps → Type 0
IsSpareUsual size k hs = (k < hs.limits.most) × (heap_at k hs ≡ None) × (size ≤ usual_room hs.limits k)

abbrev pub IsSpareLarger : ℕ → Heaps → Type 0
IsSpareLarger k hs = (hs.limits.most ≤ k) × (k < numbers hs) × (heap_at k hs ≡ None)

-- the number of a new heap for a request: the first spare one of its kind whose heap has room, while realms are left
abbrev pub IsNext : ℕ → ℕ → Heaps → Type 0
IsNext size k hs = (hs.made < last_realm)
    × ((IsUsual size hs × IsSpareUsual size k hs × ((j : ℕ) → j < k → IsSpareUsual size j hs → ⊥))
    ⊎ ((IsUsual size hs → ⊥) × IsSpareLarger k hs × ((j : ℕ) → j < k → IsSpareLarger j hs → ⊥)))

-- the node limit of a usual heap has to be raised before this many blocks are added: it is below the largest one, and has no
-- room for them
abbrev pub MustRaise : Limits → ℕ → ℕ → Guard → Type 0
MustRaise limits k blocks g = (k < limits.most) × (g.space.max_allocs < limits.max_allocs) × (g.space.max_allocs ≤ length g.space.blocks + blocks)

-- the same of the heap of a number, where there is one
abbrev pub MustRaiseIn : Limits → ℕ → ℕ → Option Guard → Type 0
MustRaiseIn limits k blocks None = ⊥
MustRaiseIn limits k blocks (Some g) = MustRaise limits k blocks g

-- the limit of a heap that was raised: twice as much, and at most the largest one
abbrev pub raised_limit : Limits → Guard → ℕ
raised_limit limits g = min (2 * g.space.max_allocs) limits.max_allocs

-- a heap under that limit exactly where it has to be raised, and else as it was
abbrev pub IsRaisedWhere : (Guard → Type 0) → Limits → Guard → Guard → Type 0
IsRaisedWhere Must limits g h = (Must g × guarded.IsRaised (raised_limit limits g) g h) ⊎ ((Must g → ⊥) × (h ≡ g))

-- a heap as a grant finds it, which may add this many blocks
abbrev pub IsRaisedAsNeeded : Limits → ℕ → ℕ → Guard → Guard → Type 0
IsRaisedAsNeeded limits k blocks g h = IsRaisedWhere (MustRaise limits k blocks) limits g h

-- some heap may ever have that many units: a usual one, or a larger one, where there may be any
abbrev pub MayEverFit : ℕ → Heaps → Type 0
MayEverFit size hs = IsUsual size hs ⊎ (1 ≤ hs.limits.most_larger)

-- no heap serves a request of at least one unit
abbrev pub IsUnmet : (Heaps → Type 0) → ℕ → Heaps → Type 0
IsUnmet NoneServes size hs = (1 ≤ size) × NoneServes hs

-- why a request is refused, where one fact says that no heap serves it, and one that the heap of a number is the first that
-- does. Empty: it is for no unit. TooLarge: no heap serves it, and none may ever be large enough. Full: no heap serves it, and
-- though one may be large enough, none may be made for it now. Memory: none serves it, and one may be made; or the limit of
-- the first one that serves it has to be raised; but the memory for that was refused
abbrev pub IsWhyBy : (Heaps → Type 0) → (ℕ → Heaps → Type 0) → ℕ → ℕ → Heaps → Refusal → Type 0
IsWhyBy NoneServes FirstServes size align hs Empty = size ≡ 0
IsWhyBy NoneServes FirstServes size align hs TooLarge = IsUnmet NoneServes size hs × (MayEverFit size hs → ⊥)
IsWhyBy NoneServes FirstServes size align hs Full = IsUnmet NoneServes size hs × MayEverFit size hs × ((k : ℕ) → IsNext size k hs → ⊥)
IsWhyBy NoneServes FirstServes size align hs Memory = (IsUnmet NoneServes size hs × ((k : ℕ) × IsNext size k hs))
    ⊎ ((1 ≤ size) × ((k : ℕ) × FirstServes k hs × MustRaiseIn hs.limits k (blocks_needed align) (heap_at k hs)))

-- a heap serves it that has room
abbrev pub IsWhy : ℕ → ℕ → Heaps → Refusal → Type 0
IsWhy size align hs r =
    IsWhyBy (NoneFits (blocks_needed align) (units_needed size align)) (IsFirstFit (blocks_needed align) (units_needed size align)) size align hs r

-- a refusal for room
abbrev pub IsForRoom : Result Granted Refusal → Type 0
IsForRoom r = (r ≡ Err Full) ⊎ (r ≡ Err TooLarge)

-- why no heap is made at a spare number
abbrev pub IsWhyNotMade : Heaps → Refusal → Type 0
IsWhyNotMade hs Full = hs.made ≡ last_realm
IsWhyNotMade hs Memory = hs.made < last_realm
IsWhyNotMade hs why = ⊥

-- a heap that was just made, the `made`-th: a fresh space, no serial given, that number as its realm, and the step 1
pub record IsNew (size max_allocs made : ℕ) (g : Guard) : Type 0 where
  pub space : IsFresh size max_allocs g.space
  pub serials : (g.given ≡ 0) × (g.serials ≡ [])
  pub realm : g.realm ≡ made
  pub step : g.step ≡ 1

-- the node limit that a usual heap begins with: the largest one, or at least 8
abbrev pub IsFirstLimit : Limits → Type 0
IsFirstLimit limits = (min 8 limits.max_allocs ≤ limits.first_allocs) × (limits.first_allocs ≤ limits.max_allocs)

-- a usual heap's limit is between `first_allocs` and `max_allocs`
abbrev pub HasUsualLimit : Limits → Guard → Type 0
HasUsualLimit limits g = (limits.first_allocs ≤ g.space.max_allocs) × (g.space.max_allocs ≤ limits.max_allocs)

-- the size that usual heaps begin with: at most the largest one, and at least 1 unless that is 0
abbrev pub IsFirstSize : Limits → Type 0
IsFirstSize limits = (min 1 limits.size ≤ limits.first_size) × (limits.first_size ≤ limits.size)

-- the units that the heap of a number has at least: those of the usual heap of that number, or one of a larger heap
abbrev pub least_units : Limits → ℕ → ℕ
least_units limits k = if nat_lt k limits.most then usual_size limits k else 1

-- the heap of a number has a size and a node limit of its kind: where the number is below most, at least the units of the
-- usual heap of that number, and the limit of such a heap; else those of a larger one, which has the units of some request
abbrev pub IsOfKind : Limits → ℕ → Guard → Type 0
IsOfKind limits k g = ((k < limits.most) × (usual_size limits k ≤ g.space.size) × HasUsualLimit limits g)
    ⊎ ((limits.most ≤ k) × (1 ≤ g.space.size) × (g.space.max_allocs ≡ larger_limit))

-- the ticket of a grant in its heap
abbrev pub ticket_in : Granted → Ticket
ticket_in grant = ticket_from grant.offset grant.place

-- a heap that was there is raised as needed, and a call of tickets is answered
pub record GrantsOld (Call : Guard → Guard → Type 0) (limits : Limits) (k blocks : ℕ) (old : Option Guard) (after : Guard) : Type 0 where
  pub was : Guard
  pub before : Guard
  pub heap : old ≡ Some was
  pub raised : IsRaisedAsNeeded limits k blocks was before
  pub by : Call before after

-- a call of tickets is answered, and the step takes an alignment in
abbrev pub Joins : (Guard → Guard → Type 0) → ℕ → Guard → Guard → Type 0
Joins Call align g h = (m : Guard) × Call g m × tickets.RaisesStep align m h

-- so in a heap that was just made
pub record GrantsNew (Call : Guard → Guard → Type 0) (size max_allocs made align : ℕ) (after : Guard) : Type 0 where
  pub before : Guard
  pub new : IsNew size max_allocs made before
  pub by : Joins Call align before after

-- a grant by a call of tickets in one heap, which all others do not see: in one that was there; or in a usual one that is made
-- for it, where its range begins at 0, a multiple of every alignment, so none is asked of it; or in one of the request's own
-- size, of which it has all
pub record GrantsBy (Call : Ticket → Guard → Guard → Type 0) (size align : ℕ) (hs ks : Heaps) (grant : Granted) : Type 0 where
  pub after : Guard
  pub step : ((grant.is_new ≡ false)
      × GrantsOld (Call (ticket_in grant)) hs.limits grant.place.heap (blocks_needed align) (heap_at grant.place.heap hs) after)
      ⊎ ((grant.is_new ≡ true) × (heap_at grant.place.heap hs ≡ None)
      × ((IsUsual size hs × GrantsNew (λ g h. tickets.AllocatesAligned size 1 g h (Some (ticket_in grant)))
      (usual_size hs.limits grant.place.heap) hs.limits.first_allocs (hs.made + 1) align after)
      ⊎ ((IsUsual size hs → ⊥) × GrantsNew (λ g h. tickets.AllocatesTight size g h (Some (ticket_in grant)))
      size larger_limit (hs.made + 1) align after)))
  pub realm : grant.place.realm ≡ hs.realm
  pub number : grant.place.heap < length hs.slots
  pub heaps : ks ≡ record hs {
    slots = slice_set hs.slots grant.place.heap (Some after);
    made = (if grant.is_new then hs.made + 1 else hs.made);
    accesses = ks.accesses;
  }

-- of a heap that was there, as `allocate_aligned` of tickets grants
abbrev pub Grants : ℕ → ℕ → Heaps → Heaps → Granted → Type 0
Grants size align hs ks grant = GrantsBy (λ t g h. tickets.AllocatesAligned size align g h (Some t)) size align hs ks grant

-- the text of a reason
abbrev pub refusal_words : Refusal → List ℕ
refusal_words Empty = codes "the request is for no unit"
refusal_words TooLarge = codes "the request is larger than any heap may be"
refusal_words Full = codes "no heap has room, and no other may be made"
refusal_words Memory = codes "no memory is left for another heap or for more nodes"

-- the range of a ticket in a heap, where there is one
abbrev pub range_in : Ticket → Option Guard → Option Range
range_in t None = None
range_in t (Some g) = guarded.range_of t g

-- the range of a place: that of its ticket in its heap, where the place is of these heaps
abbrev pub range_of : Place → Heaps → Option Range
range_of p hs = if nat_eq p.realm hs.realm then range_in (ticket_of p) (heap_at p.heap hs) else None

-- a place is live while it has a range
abbrev pub IsLive : Place → Heaps → Type 0
IsLive p hs = IsSome (range_of p hs)

-- two places are of one grant
abbrev pub AreAlike : Place → Place → Type 0
AreAlike p q = (p.heap ≡ q.heap) × (p.realm ≡ q.realm) × guarded.AreAlike (ticket_of p) (ticket_of q)

-- every place has the range that it had
abbrev pub KeepsAll : Heaps → Heaps → Type 0
KeepsAll hs ks = (p : Place) → range_of p ks ≡ range_of p hs

-- every other place has the range that it had
abbrev pub KeepsOthers : Place → Heaps → Heaps → Type 0
KeepsOthers p hs ks = (q : Place) → (AreAlike q p → ⊥) → range_of q ks ≡ range_of q hs

-- every place in another heap has the range that it had
abbrev pub KeepsOtherHeaps : ℕ → Heaps → Heaps → Type 0
KeepsOtherHeaps k hs ks = (q : Place) → (q.heap ≡ k → ⊥) → range_of q ks ≡ range_of q hs

-- all is as it was, however many accesses are counted
abbrev pub IsSame : Heaps → Heaps → Type 0
IsSame hs ks = ks ≡ record hs { accesses = ks.accesses }

-- one number has another heap, or none
abbrev pub Puts : ℕ → Option Guard → Heaps → Heaps → Type 0
Puts k o hs ks = ks ≡ record hs { slots = slice_set hs.slots k o; accesses = ks.accesses }

-- a heap that was made gets a number
abbrev pub Adds : ℕ → Option Guard → Heaps → Heaps → Type 0
Adds k o hs ks = ks ≡ record hs { slots = slice_set hs.slots k o; made = hs.made + 1; accesses = ks.accesses }

-- whether a heap has no live range, not even one of no units
abbrev pub is_empty : Option Guard → Bool
is_empty None = false
is_empty (Some g) = nat_eq (count_used g.space.blocks) 0

-- the largest request for which one of these heaps, whose numbers are k and those after it, has room, where it may add one
-- block, or 0
abbrev pub largest_room : Limits → ℕ → List (Option Guard) → ℕ
largest_room limits k [] = 0
largest_room limits k (o ∷ slots) = max (room_of limits k 1 o) (largest_room limits (k + 1) slots)

-- the units of a heap, and those of them that are live and free
abbrev pub units_of_heap : Guard → ℕ
units_of_heap g = g.space.size

abbrev pub live_units_of : Guard → ℕ
live_units_of g = used_units g.space.blocks

abbrev pub free_of : Guard → ℕ
free_of g = sum (free_sizes g.space.blocks)

-- a number of a heap, or 0 where there is none
abbrev pub part : (Guard → ℕ) → Option Guard → ℕ
part f None = 0
part f (Some g) = f g

-- the step of a heap, 0 where it has none
abbrev pub step_of : Guard → ℕ
step_of g = g.step

-- the step of the heap of a number, 0 where it has none or there is no heap
abbrev pub step_at : ℕ → Heaps → ℕ
step_at k hs = part step_of (heap_at k hs)

-- a place that is live before and after keeps each alignment of its range that divides the step of its heap, and that
-- divides the step of its heap after it too
abbrev pub KeepsAlignments : Heaps → Heaps → Type 0
KeepsAlignments hs ks = (p : Place) (r q : Range) (a : ℕ) → range_of p hs ≡ Some r → range_of p ks ≡ Some q → a ∣ step_at p.heap hs → a ∣ r.offset
    → (a ∣ step_at p.heap ks) × (a ∣ q.offset)

-- a number of each heap, added up
abbrev pub total : (Guard → ℕ) → List (Option Guard) → ℕ
total f [] = 0
total f (o ∷ slots) = part f o + total f slots

-- how many heaps there are
abbrev pub heap_count : List (Option Guard) → ℕ
heap_count slots = total (λ g. 1) slots

-- how many of them are empty
abbrev pub empties : List (Option Guard) → ℕ
empties slots = total (λ g. if nat_eq (count_used g.space.blocks) 0 then 1 else 0) slots

-- the numbers of all heaps
pub record AreTotals (t : Totals) (limits : Limits) (slots : List (Option Guard)) : Type 0 where
  pub heaps : t.heaps ≡ heap_count slots
  pub units : t.units ≡ total units_of_heap slots
  pub live_units : t.live_units ≡ total live_units_of slots
  pub free_units : t.free_units ≡ total free_of slots
  pub largest : t.largest_free_region ≡ largest_room limits 0 slots
