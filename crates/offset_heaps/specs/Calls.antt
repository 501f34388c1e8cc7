-- Calls, their results and what they leave: of the contract of each call the clauses of the same names.
use Rattle.std.specs.Prelude.{◌≡◌, ◌↔◌, ℕ, ◌+◌, ◌<◌, ◌≤◌, ◌⊎◌, Bool, true, false, List, [], ◌∷◌, Option, None, Some, IfSome, IsSome, IsTrue, Result, Ok, Err, IfOk, IfErr, OnErr, min}
use Rattle.std.specs.declared.alloc.AllocError.{AllocError}
use Rattle.offset_allocator.specs.Moving.Compacting.{Move}
use Rattle.offset_allocator.specs.Requests.{blocks_needed, units_needed}
use Rattle.offset_allocator.specs.declared.moves.room.RoomCost.{RoomCost}
use Rattle.offset_guarded.specs.Answers as tickets
use Rattle.offset_guarded.specs.Guard.{Guard, Ticket}
use Rattle.offset_heaps.specs.Changing.{Alters, CompactsAll, IsCompactible, RetractsTo}
use Rattle.offset_heaps.specs.Extending.{CanExtendIn, ExtendsHeap}
use Rattle.offset_heaps.specs.declared.place.Granted.{Granted}
use Rattle.offset_heaps.specs.declared.refusal.Refusal.{Refusal}
use Rattle.offset_heaps.specs.declared.refusal.Refusal.TheVariants.{Empty, Memory}
use Rattle.offset_heaps.specs.Heaps.{Heaps, Grants, GrantsBy, IsFirstFit, IsLive, IsNext, IsSame, IsWhyBy, NoneFits, Puts, empties, heap_at, is_empty, step_at}
use Rattle.offset_heaps.specs.Histories.{ResetsAll}
use Rattle.offset_heaps.specs.Places.{Place, ticket_of}
use Rattle.offset_heaps.specs.Relocating.{IsOwnAlign, IsTaker, NoneTakes, size_of}
use Rattle.offset_heaps.specs.State.{IsWellFormed}
use Rattle.offset_heaps.specs.Tight.{IsFirstHolding, NoneHolds}
use Rattle.offset_heaps.specs.Twins.{AreTwins}

-- a request, where one fact says that no heap serves it, and one that the heap of a number is the first that does, which then
-- grants it by a call of tickets
pub record AllocatesBy (NoneServes : Heaps → Type 0) (FirstServes : ℕ → Heaps → Type 0) (Call : Ticket → Guard → Guard → Type 0) (size align : ℕ) (hs ks : Heaps) (r : Result Granted Refusal) : Type 0 where
  pub empty : size ≡ 0 → r ≡ Err Empty
  pub why : IfErr r (IsWhyBy NoneServes FirstServes size align hs)
  pub same : OnErr r (IsSame hs ks)
  pub found : IfOk r (λ g. g.is_new ≡ false → FirstServes g.place.heap hs)
  pub made : IfOk r (λ g. g.is_new ≡ true → NoneServes hs × IsNext size g.place.heap hs)
  pub grants : IfOk r (GrantsBy Call size align hs ks)

-- `allocate_aligned`, and with the alignment 1 `allocate`
abbrev pub Allocates : ℕ → ℕ → Heaps → Heaps → Result Granted Refusal → Type 0
Allocates size align hs ks r = AllocatesBy (NoneFits (blocks_needed align) (units_needed size align)) (IsFirstFit (blocks_needed align) (units_needed size align))
    (λ t g h. tickets.AllocatesAligned size align g h (Some t)) size align hs ks r

-- `allocate_tight_aligned`, and with the alignment 1 `allocate_tight`
abbrev pub AllocatesTight : ℕ → ℕ → Heaps → Heaps → Result Granted Refusal → Type 0
AllocatesTight size align hs ks r =
    AllocatesBy (NoneHolds size align) (IsFirstHolding size align) (λ t g h. tickets.AllocatesTightAligned size align g h (Some t)) size align hs ks r

-- `free`
pub record Frees (p : Place) (hs ks : Heaps) (r : Bool) : Type 0 where
  pub done : IsTrue r ↔ IsLive p hs
  pub same : r ≡ false → IsSame hs ks
  pub step : r ≡ true → Alters p.heap (λ g h. tickets.Frees (ticket_of p) g h true) hs ks

-- `relocate_aligned`
pub record Relocates (p : Place) (align : ℕ) (hs ks : Heaps) (r : Option Granted) : Type 0 where
  pub none : r ≡ None ↔ NoneTakes p align hs
  pub same : r ≡ None → IsSame hs ks
  pub first : IfSome r (λ g. IsTaker p align hs g.place.heap)
  pub found : IfSome r (λ g. g.is_new ≡ false)
  pub grants : IfSome r (Grants (size_of p hs) align hs ks)

-- `relocate`
pub record RelocatesOwn (p : Place) (hs ks : Heaps) (r : Option Granted) : Type 0 where
  pub not_live : (IsLive p hs → ⊥) → r ≡ None
  pub none : step_at p.heap hs ≡ 0 → r ≡ None
  pub same : r ≡ None → IsSame hs ks
  pub step : IsLive p hs → 1 ≤ step_at p.heap hs → (align : ℕ) × IsOwnAlign p hs align × Relocates p align hs ks r

-- a range goes to another heap: a second range is granted there, and the first one is freed
pub record Goes (p q : Place) (hs ks : Heaps) : Type 0 where
  pub align : ℕ
  pub offset : ℕ
  pub between : Heaps
  pub grants : Relocates p align hs between (Some (record { place = q; offset = offset; is_new = false }))
  pub frees : Frees p between ks true

-- ranges go, one after another, of which n have units
abbrev pub GoAll : ℕ → Heaps → List Place → Heaps → Type 0
GoAll n hs [] ks = (n ≡ 0) × (ks ≡ hs)
GoAll n hs (p ∷ ps) ks = (q : Place) × (now : Heaps) × Goes p q hs now × IsWellFormed now
    × ((later : ℕ) × (n ≡ min 1 (size_of p hs) + later) × GoAll later now ps ks)

-- `drop_empty`
pub record DropsEmpty (keep : ℕ) (hs ks : Heaps) (r : Option ℕ) : Type 0 where
  pub kept : r ≡ None ↔ (empties hs.slots ≤ keep)
  pub same : r ≡ None → IsSame hs ks
  pub empty : IfSome r (λ k. is_empty (heap_at k hs) ≡ true)
  pub last : IfSome r (λ k. (j : ℕ) → k < j → is_empty (heap_at j hs) ≡ false)
  pub heaps : IfSome r (λ k. Puts k None hs ks)

-- `drop_heap`
pub record Drops (k : ℕ) (hs ks : Heaps) (r : Bool) : Type 0 where
  pub done : IsTrue r ↔ (is_empty (heap_at k hs) ≡ true)
  pub same : r ≡ false → IsSame hs ks
  pub heaps : r ≡ true → Puts k None hs ks

-- `give_up`
pub record GivesUp (k : ℕ) (hs ks : Heaps) (r : Bool) : Type 0 where
  pub done : IsTrue r ↔ IsSome (heap_at k hs)
  pub same : r ≡ false → IsSame hs ks
  pub heaps : r ≡ true → Puts k None hs ks

-- `extend_heap`
pub record ExtendsOne (k more : ℕ) (hs ks : Heaps) (r : Result Bool AllocError) : Type 0 where
  pub done : IfOk r (λ d. IsTrue d ↔ CanExtendIn hs.limits k more (heap_at k hs))
  pub none : heap_at k hs ≡ None → IsSame hs ks
  pub refused : r ≡ Ok false → AreTwins hs ks
  pub same : OnErr r (IsSame hs ks)
  pub step : IfOk r (λ d. IsSome (heap_at k hs) → ExtendsHeap k more d hs ks)

-- `compact`
pub record CompactsEach (hs ks : Heaps) (r : Bool) : Type 0 where
  pub done : IsTrue r ↔ ((k : ℕ) → IsCompactible (heap_at k hs))
  pub step : CompactsAll hs ks

-- a call of tickets on the heap of a number: its answer, and its moves
abbrev pub TakesOn : ℕ → tickets.Call → Heaps → Heaps → tickets.Answer → List Move → Type 0
TakesOn k c hs ks a ms = Alters k (λ g h. tickets.Answers c g h a ms) hs ks

-- the same where the number has a heap; else nothing changes, and the answer is `without`: `compact_heap`,
-- `make_room_aligned`, and with the alignment 1 `make_room`
pub record TakesWhere (k : ℕ) (c : tickets.Call) (without : tickets.Answer) (hs ks : Heaps) (a : tickets.Answer) : Type 0 where
  pub none : heap_at k hs ≡ None → IsSame hs ks × (a ≡ without)
  pub step : IsSome (heap_at k hs) → (ms : List Move) × TakesOn k c hs ks a ms

-- a call of tickets that resizes the range of a place, where that is live: `shrink` and `grow_in_place`
pub record TakesAt (p : Place) (c : tickets.Call) (hs ks : Heaps) (r : Option Bool) : Type 0 where
  pub live : IsSome r ↔ IsLive p hs
  pub not_live : r ≡ None → IsSame hs ks
  pub step : IsSome r → TakesOn p.heap c hs ks (tickets.Answer.Resized r) []

-- a call that may change heaps
pub data Call : Type 0 where
  -- a request, by its size and alignment
  Allocate : ℕ → ℕ → Call
  Allocate_tight : ℕ → ℕ → Call
  Free : Place → Call
  Relocate : Place → Call
  Relocate_aligned : Place → ℕ → Call
  Drop_empty : ℕ → Call
  Drop_heap : ℕ → Call
  Give_up : ℕ → Call
  Reset : Call
  -- the range of a place becomes smaller, or larger, in place: it has n units afterwards
  Shrink : Place → ℕ → Call
  Grow_in_place : Place → ℕ → Call
  -- the heap of a number is extended by n units
  Extend_heap : ℕ → ℕ → Call
  Compact_heap : ℕ → Call
  Compact_all : Call
  -- room for a request, by its size and alignment, in the heap of a number
  Make_room : ℕ → ℕ → ℕ → Call
  -- the heap of a number is retracted by n units, but not below the least units of its kind: `retract` of `HeapMut`
  Retract_heap : ℕ → ℕ → Call
  -- a call of tickets on the heap of a number
  On_heap : ℕ → tickets.Call → Call

-- the result of a call
pub data Reply : Type 0 where
  Requested : Result Granted Refusal → Reply
  Second : Option Granted → Reply
  Dropped : Option ℕ → Reply
  Was_done : Bool → Reply
  Nothing : Reply
  Resized : Option Bool → Reply
  Extended : Result Bool AllocError → Reply
  Room_made : Option RoomCost → Reply
  -- with the moves
  Answered : tickets.Answer → List Move → Reply

-- a call is taken: what it leaves, and its result. The units of a request have 32 bits
abbrev pub Takes : Call → Heaps → Heaps → Reply → Type 0
Takes (Allocate size align) hs ks reply = (r : Result Granted Refusal) × (reply ≡ Requested r) × (size ≤ 4294967295) × Allocates size align hs ks r
Takes (Allocate_tight size align) hs ks reply = (r : Result Granted Refusal) × (reply ≡ Requested r) × (size ≤ 4294967295) × AllocatesTight size align hs ks r
Takes (Free p) hs ks reply = (r : Bool) × (reply ≡ Was_done r) × Frees p hs ks r
Takes (Relocate p) hs ks reply = (r : Option Granted) × (reply ≡ Second r) × RelocatesOwn p hs ks r
Takes (Relocate_aligned p align) hs ks reply = (r : Option Granted) × (reply ≡ Second r) × Relocates p align hs ks r
Takes (Drop_empty keep) hs ks reply = (r : Option ℕ) × (reply ≡ Dropped r) × DropsEmpty keep hs ks r
Takes (Drop_heap k) hs ks reply = (r : Bool) × (reply ≡ Was_done r) × Drops k hs ks r
Takes (Give_up k) hs ks reply = (r : Bool) × (reply ≡ Was_done r) × GivesUp k hs ks r
Takes Reset hs ks reply = (reply ≡ Nothing) × ResetsAll hs ks
Takes (Shrink p n) hs ks reply = (r : Option Bool) × (reply ≡ Resized r) × TakesAt p (tickets.Call.Shrink (ticket_of p) n) hs ks r
Takes (Grow_in_place p n) hs ks reply = (r : Option Bool) × (reply ≡ Resized r) × TakesAt p (tickets.Call.Grow_in_place (ticket_of p) n) hs ks r
Takes (Extend_heap k more) hs ks reply = (r : Result Bool AllocError) × (reply ≡ Extended r) × ExtendsOne k more hs ks r
Takes (Compact_heap k) hs ks reply = (r : Bool) × (reply ≡ Was_done r)
    × TakesWhere k tickets.Call.Compact (tickets.Answer.Was_done false) hs ks (tickets.Answer.Was_done r)
Takes Compact_all hs ks reply = (r : Bool) × (reply ≡ Was_done r) × CompactsEach hs ks r
Takes (Make_room k size align) hs ks reply = (r : Option RoomCost) × (reply ≡ Room_made r)
    × TakesWhere k (tickets.Call.Make_room size align) (tickets.Answer.Room_made None) hs ks (tickets.Answer.Room_made r)
Takes (Retract_heap k less) hs ks reply = (r : Bool) × (reply ≡ Was_done r) × Alters k (RetractsTo hs.limits k less r) hs ks
Takes (On_heap k c) hs ks reply = (a : tickets.Answer) × (ms : List Move) × (reply ≡ Answered a ms) × TakesOn k c hs ks a ms

-- a request, or an extension of a heap, returned out of memory
abbrev pub IsStarved : Reply → Type 0
IsStarved reply = (reply ≡ Requested (Err Memory)) ⊎ ((e : AllocError) × (reply ≡ Extended (Err e)))

-- calls are taken, one after another, none of which returns out of memory
abbrev pub TakesAll : Heaps → List Call → List Reply → Heaps → Type 0
TakesAll hs [] [] ks = ks ≡ hs
TakesAll hs (c ∷ cs) (r ∷ rs) ks = (now : Heaps) × Takes c hs now r × (IsStarved r → ⊥) × IsWellFormed now × TakesAll now cs rs ks
TakesAll hs cs rs ks = ⊥
