-- What each call of a space with tickets returns and leaves: a relation for each, which is its contract, and that of the
-- same call on one heap of many.
use Rattle.std.specs.Prelude.{◌≡◌, ◌↔◌, ℕ, ◌+◌, ◌*◌, ◌%◌, ◌≤◌, ◌⊎◌, Bool, true, false, List, [], ◌∷◌, ◌++◌, Option, Some, None, IfSome, IsSome, IsTrue, option_map, if◌then◌else◌, length, max, min}
use Rattle.std.specs.Int.{◌∣◌, IsGcd}
use Rattle.std.specs.List.{FoldsTo}
use Rattle.offset_allocator.specs.AtOffset as at
use Rattle.offset_allocator.specs.Classes.{down, up, value}
use Rattle.offset_allocator.specs.Moving.Budget as frames
use Rattle.offset_allocator.specs.Moving.BySteps as steps
use Rattle.offset_allocator.specs.Moving.Compacting as slide
use Rattle.offset_allocator.specs.Moving.Compacting.{Move}
use Rattle.offset_allocator.specs.Moving.Relocating as again
use Rattle.offset_allocator.specs.Moving.Relocating.{offset_of}
use Rattle.offset_allocator.specs.Moving.Retracting as end
use Rattle.offset_allocator.specs.Moving.Room as room
use Rattle.offset_allocator.specs.Moving.Room.{IsLeastCost, ranges_of}
use Rattle.offset_allocator.specs.Moving.RoomBySteps as room_by
use Rattle.offset_allocator.specs.Moving.RoomBySteps.{IsLeastCostBy, names_short}
use Rattle.offset_allocator.specs.Ranges.{size_of}
use Rattle.offset_allocator.specs.Relations as space
use Rattle.offset_allocator.specs.Requests.{CanGrant, blocks_needed, units_needed}
use Rattle.offset_allocator.specs.Resizing as resize
use Rattle.offset_allocator.specs.Tight as tight
use Rattle.offset_allocator.specs.Tight.{CanHold}
use Rattle.offset_allocator.specs.View.{View, bin_at, count_used, reported_largest}
use Rattle.offset_allocator.specs.declared.moves.over_frames.Progress.{Progress}
use Rattle.offset_allocator.specs.declared.moves.room.RoomCost.{RoomCost}
use Rattle.offset_guarded.specs.Guard.{CoversNodes, Grants, Guard, HasSerialLeft, HasUnits, IsLive, IsSame, KeepsAlignments, KeepsAll, KeepsDivisors, KeepsLive, KeepsOthers, KeepsSerials, KeepsSizes, Ticket, handle_in, range_of}
use Rattle.offset_guarded.specs.Step.{IsJoined}

-- ---- requests
-- a request for n units is granted with the next serial, or leaves all as it was
pub record Requests (n : ℕ) (g h : Guard) (r : Option Ticket) : Type 0 where
  -- a grant has the next serial, and its ticket was not live; its range has exactly n units, lies in the space, and overlaps
  -- no live range; every other ticket keeps its range, if it has one
  pub grants : IfSome r (Grants n g h)
  -- a refusal leaves all as it was
  pub same : r ≡ None → IsSame g h
  pub serials : r ≡ None → h ≡ record g { space = h.space }

-- a grant begins at a multiple of an alignment, and takes it into the step
pub record Aligns (align : ℕ) (g h : Guard) (r : Option Ticket) : Type 0 where
  pub aligned : IfSome r (λ t. t.offset % align ≡ 0)
  pub joined : IfSome r (λ _. IsJoined g.step align h.step)

-- here, as below, `step` says what the allocator does, where a serial is left; `g.step` is the step of the space
pub record Allocates (n : ℕ) (g h : Guard) (r : Option Ticket) : Type 0 where
  pub request : Requests n g h r
  -- it is granted exactly when a serial is left and the allocator can grant it: for at least one unit, when n is at most the
  -- reported `largest_free_region`
  pub granted : 1 ≤ n → (IsSome r ↔ (HasSerialLeft g × (n ≤ reported_largest g.space)))
  pub can_grant : IsSome r ↔ (HasSerialLeft g × CanGrant 1 n g.space)
  pub step : HasSerialLeft g → space.Allocates n g.space h.space (option_map handle_in r)
  pub same_step : h.step ≡ g.step
  pub accesses_max : h.space.accesses ≤ g.space.accesses + 64

pub record AllocatesAligned (n align : ℕ) (g h : Guard) (r : Option Ticket) : Type 0 where
  pub request : Requests n g h r
  pub aligns : Aligns align g h r
  pub can_grant : IsSome r ↔ (HasSerialLeft g × CanGrant (blocks_needed align) (units_needed n align) g.space)
  pub step : HasSerialLeft g → space.Aligns n align g.space h.space (option_map handle_in r)
  pub accesses_max : h.space.accesses ≤ g.space.accesses + 128

-- of any free block that has n units
pub record AllocatesTight (n : ℕ) (g h : Guard) (r : Option Ticket) : Type 0 where
  pub request : Requests n g h r
  -- it is granted exactly when a serial is left and there is room for one more block and a free block of n units
  pub can_hold : IsSome r ↔ (HasSerialLeft g × CanHold n 1 g.space)
  pub step : HasSerialLeft g → tight.AlignsTight n 1 g.space h.space (option_map handle_in r)
  pub same_step : h.step ≡ g.step
  pub accesses_max : h.space.accesses ≤ g.space.accesses + 140 + 6 * length (bin_at g.space.bins (down n))

pub record AllocatesTightAligned (n align : ℕ) (g h : Guard) (r : Option Ticket) : Type 0 where
  pub request : Requests n g h r
  pub aligns : Aligns align g h r
  pub can_hold : IsSome r ↔ (HasSerialLeft g × CanHold n align g.space)
  pub step : HasSerialLeft g → tight.AlignsTight n align g.space h.space (option_map handle_in r)
  pub accesses_max : h.space.accesses ≤ g.space.accesses + 140 + 6 * length (tight.listed_from (down n) g.space.bins)

-- the units from an offset on
pub record AllocatesAt (offset n : ℕ) (g h : Guard) (r : Option Ticket) : Type 0 where
  pub request : Requests n g h r
  pub granted : IsSome r ↔ (HasSerialLeft g × at.CanGrantAt offset n g.space)
  pub begins : IfSome r (λ t. t.offset ≡ offset)
  pub step : HasSerialLeft g → at.AllocatesAt offset n g.space h.space (option_map handle_in r)
  pub same_step : h.step ≡ g.step
  pub accesses_max : h.space.accesses ≤ g.space.accesses + 80 + 3 * length g.space.blocks

-- a second range of as many units is granted for that of a live ticket, and ends where that begins, or before
pub record RequestsSecond (t : Ticket) (g h : Guard) (r : Option Ticket) : Type 0 where
  pub live : IsSome r → IsLive t g × HasSerialLeft g
  pub request : Requests (size_of t.name g.space) g h r
  pub before : IfSome r (λ u. u.offset + size_of t.name g.space ≤ offset_of t.name g.space)
  -- those of the test whether the ticket is live, at most 8, are not counted
  pub accesses_max : h.space.accesses ≤ g.space.accesses + 67

pub record Relocates (t : Ticket) (g h : Guard) (r : Option Ticket) : Type 0 where
  pub second : RequestsSecond t g h r
  -- it has each alignment of the old range that divides the step
  pub aligned : IfSome r (λ u. (a : ℕ) → a ∣ g.step → a ∣ offset_of t.name g.space → a ∣ u.offset)
  -- where there is no step, nothing changes
  pub none : g.step ≡ 0 → (r ≡ None) × (h ≡ g)
  -- where the ticket is live, a serial is left, and there is a step
  pub step : IsLive t g → HasSerialLeft g → 1 ≤ g.step → (align : ℕ) → IsGcd (offset_of t.name g.space) g.step align
      → again.RelocatesAligned t.name align g.space h.space (option_map handle_in r)
  pub same_step : h.step ≡ g.step

pub record RelocatesAligned (t : Ticket) (align : ℕ) (g h : Guard) (r : Option Ticket) : Type 0 where
  pub second : RequestsSecond t g h r
  pub aligns : Aligns align g h r
  pub step : IsLive t g → HasSerialLeft g → again.RelocatesAligned t.name align g.space h.space (option_map handle_in r)

pub record RelocatesUnaligned (t : Ticket) (g h : Guard) (r : Option Ticket) : Type 0 where
  pub second : RequestsSecond t g h r
  pub step : IsLive t g → HasSerialLeft g → again.Relocates t.name g.space h.space (option_map handle_in r)
  pub same_step : h.step ≡ g.step

-- ---- ranges and the space in place
pub record Frees (t : Ticket) (g h : Guard) (r : Bool) : Type 0 where
  -- it is done exactly when the ticket is live; after it the ticket is not, and every other one keeps its range, if it has one
  pub done : IsTrue r ↔ IsLive t g
  pub gone : range_of t h ≡ None
  pub others : KeepsOthers t g h
  -- a ticket that is not live changes nothing at all
  pub same : r ≡ false → h ≡ g
  -- the step of the allocator; all serials stay
  pub step : r ≡ true → space.Frees t.name g.space h.space
  pub serials : h ≡ record g { space = h.space }
  -- those of the test whether the ticket is live, at most 8, are not counted: `is_live_counted` of the allocator's `laws` has them
  pub accesses_max : h.space.accesses ≤ g.space.accesses + 128

-- the range of a ticket has n units, from its first one on, where the space can do it
pub record Resizes (t : Ticket) (n : ℕ) (Can : View → Type 0) (Step : View → View → Bool → Type 0) (g h : Guard) (r : Option Bool) : Type 0 where
  pub live : IsSome r ↔ IsLive t g
  pub done : IfSome r (λ d. IsTrue d ↔ Can g.space)
  pub range : r ≡ Some true → HasUnits t n g h
  -- every other ticket keeps its range
  pub others : KeepsOthers t g h
  pub kept : KeepsLive g h
  -- a refusal leaves all as it was, and a ticket that is not live changes nothing at all
  pub same : r ≡ Some false → IsSame g h
  pub not_live : r ≡ None → h ≡ g
  -- the step of the allocator; all serials stay
  pub step : IfSome r (Step g.space h.space)
  pub serials : KeepsSerials g h
  pub table : IfSome r (λ _. CoversNodes g h)
  -- those of the test whether the ticket is live, at most 8, are not counted
  pub accesses_max : h.space.accesses ≤ g.space.accesses + 128

abbrev pub Shrinks : Ticket → ℕ → Guard → Guard → Option Bool → Type 0
Shrinks t n g h r = Resizes t n (resize.CanShrink t.name n) (resize.Shrinks t.name n) g h r

abbrev pub Grows : Ticket → ℕ → Guard → Guard → Option Bool → Type 0
Grows t n g h r = Resizes t n (resize.CanGrow t.name n) (resize.Grows t.name n) g h r

pub record Extends (more : ℕ) (g h : Guard) (r : Bool) : Type 0 where
  pub done : IsTrue r ↔ (1 ≤ more → space.CanExtend more g.space)
  pub size : IsTrue r → h.space.size ≡ g.space.size + more
  -- every ticket keeps its range, and a refusal leaves all as it was
  pub kept : KeepsAll g h
  pub same : r ≡ false → IsSame g h
  pub step : space.Extends more g.space h.space r
  pub serials : KeepsSerials g h
  pub table : CoversNodes g h
  pub accesses_max : h.space.accesses ≤ g.space.accesses + 128

pub record Retracts (less : ℕ) (g h : Guard) (r : Bool) : Type 0 where
  pub done : IsTrue r ↔ (1 ≤ less → end.CanRetract less g.space)
  pub size : IsTrue r → h.space.size + less ≡ g.space.size
  pub kept : KeepsAll g h
  pub same : r ≡ false → IsSame g h
  pub step : end.Retracts less g.space h.space r
  pub serials : h ≡ record g { space = h.space }
  pub accesses_max : h.space.accesses ≤ g.space.accesses + 64

pub record RaisesStep (align : ℕ) (g h : Guard) : Type 0 where
  pub joined : IsJoined g.step align h.step
  pub rest : h ≡ record g { step = h.step }

pub record Resets (g h : Guard) : Type 0 where
  pub gone : (t : Ticket) → range_of t h ≡ None
  pub size : h.space.size ≡ g.space.size
  -- the step of the allocator; all serials stay, so that none is given again
  pub step : space.Resets g.space h.space
  pub serials : h ≡ record g { space = h.space; step = 1 }
  pub accesses_max : h.space.accesses ≤ g.space.accesses + min (130 * count_used g.space.blocks + 2) 270

-- ---- ranges that move: a closure is called with each move, in space order. All serials stay
module _ {F : Type 0} (R : F → Move → F → Type 0) where
  -- by the step of the space: where there is none, nothing changes, and no move is seen
  pub record Compacts (f : F) (g h : Guard) (f' : F) (r : Bool) : Type 0 where
    pub sizes : KeepsSizes g h
    -- every range keeps each alignment that divides the step
    pub aligned : KeepsAlignments g h
    pub moved : FoldsTo R f (if r then steps.moves_by g.step 0 0 g.space.blocks else []) f'
    pub none : g.step ≡ 0 → (r ≡ false) × (h ≡ g)
    pub step : 1 ≤ g.step → steps.CompactsBy g.step g.space h.space r
    pub serials : h ≡ record g { space = h.space }
    pub accesses_max : h.space.accesses ≤ g.space.accesses + 21 * length g.space.blocks + 40

  -- by whole steps: a range keeps each alignment that divides the step
  pub record CompactsBy (s : ℕ) (f : F) (g h : Guard) (f' : F) (r : Bool) : Type 0 where
    pub sizes : KeepsSizes g h
    pub divisors : KeepsDivisors s g h
    pub moved : FoldsTo R f (if r then steps.moves_by s 0 0 g.space.blocks else []) f'
    pub step : steps.CompactsBy s g.space h.space r
    pub serials : h ≡ record g { space = h.space }
    pub accesses_max : h.space.accesses ≤ g.space.accesses + 21 * length g.space.blocks + 40

  pub record CompactsUnaligned (f : F) (g h : Guard) (f' : F) : Type 0 where
    pub sizes : KeepsSizes g h
    pub moved : FoldsTo R f (slide.moves 0 0 g.space.blocks) f'
    pub step : slide.Compacts g.space h.space
    pub serials : h ≡ record g { space = h.space }
    pub accesses_max : h.space.accesses ≤ g.space.accesses + 10 * length g.space.blocks + 384

  -- one range moves, or as many as these units and ranges allow
  abbrev pub IsWithin : ℕ → ℕ → Option Progress → Type 0
  IsWithin units ranges r = IfSome r (λ p. (p.ranges ≡ 1) ⊎ ((p.units ≤ units) × (p.ranges ≤ ranges)))

  -- from an offset on, by these units and ranges; `step` has the moves
  pub record CompactsWithin (from units ranges : ℕ) (f : F) (g h : Guard) (f' : F) (r : Option Progress) : Type 0 where
    pub sizes : KeepsSizes g h
    pub aligned : KeepsAlignments g h
    pub budget : IsWithin units ranges r
    pub none : g.step ≡ 0 → (r ≡ None) × (h ≡ g) × (f' ≡ f)
    pub step : 1 ≤ g.step → frames.CompactsWithin R g.step from units ranges g.space f r h.space f'
    pub serials : h ≡ record g { space = h.space }
    pub accesses_max : h.space.accesses ≤ g.space.accesses + 26 * length g.space.blocks + 60
    pub accesses_budget : h.space.accesses ≤ g.space.accesses + 5 * length g.space.blocks + 42 * max 1 ranges + 60

  pub record CompactsWithinBy (s from units ranges : ℕ) (f : F) (g h : Guard) (f' : F) (r : Option Progress) : Type 0 where
    pub sizes : KeepsSizes g h
    pub divisors : KeepsDivisors s g h
    pub budget : IsWithin units ranges r
    pub step : frames.CompactsWithin R s from units ranges g.space f r h.space f'
    pub serials : h ≡ record g { space = h.space }
    pub accesses_max : h.space.accesses ≤ g.space.accesses + 26 * length g.space.blocks + 60
    pub accesses_budget : h.space.accesses ≤ g.space.accesses + 5 * length g.space.blocks + 42 * max 1 ranges + 60

  -- for a request, by its units and its alignment: what `room_cost_aligned` would have returned before, and the allocator can
  -- grant the request then
  pub record MakesRoom (n align : ℕ) (f : F) (g h : Guard) (f' : F) (r : Option RoomCost) : Type 0 where
    pub cost : 1 ≤ g.step → IsLeastCostBy g.step (value (up (units_needed n align))) (names_short (blocks_needed align) g.space) g.space.blocks r
    pub sizes : KeepsSizes g h
    pub aligned : KeepsAlignments g h
    pub granted : IfSome r (λ c. CanGrant (blocks_needed align) (units_needed n align) h.space)
    pub none : g.step ≡ 0 → (r ≡ None) × (h ≡ g) × (f' ≡ f)
    pub step : 1 ≤ g.step → room_by.MakesRoomBy R g.step (value (up (units_needed n align))) (names_short (blocks_needed align) g.space) g.space f r h.space f'
    pub serials : h ≡ record g { space = h.space }
    pub accesses_max : h.space.accesses ≤ g.space.accesses + 7 * length g.space.blocks + 36 * ranges_of r + 60

  -- and by a step
  pub record MakesRoomBy (n align s : ℕ) (f : F) (g h : Guard) (f' : F) (r : Option RoomCost) : Type 0 where
    pub cost : IsLeastCostBy s (value (up (units_needed n align))) (names_short (blocks_needed align) g.space) g.space.blocks r
    pub sizes : KeepsSizes g h
    pub divisors : KeepsDivisors s g h
    pub granted : IfSome r (λ c. CanGrant (blocks_needed align) (units_needed n align) h.space)
    pub step : room_by.MakesRoomBy R s (value (up (units_needed n align))) (names_short (blocks_needed align) g.space) g.space f r h.space f'
    pub serials : h ≡ record g { space = h.space }
    pub accesses_max : h.space.accesses ≤ g.space.accesses + 7 * length g.space.blocks + 36 * ranges_of r + 60

  -- what `room_cost` of the allocator would have returned before; where ranges had to move, the allocator can grant the request then
  pub record MakesRoomUnaligned (n : ℕ) (f : F) (g h : Guard) (f' : F) (r : Option RoomCost) : Type 0 where
    pub cost : IsLeastCost (value (up n)) g.space.blocks r
    pub sizes : KeepsSizes g h
    pub granted : IfSome r (λ c. 1 ≤ c.ranges → CanGrant 1 n h.space)
    pub step : room.MakesRoom R (value (up n)) g.space f r h.space f'
    pub serials : h ≡ record g { space = h.space }
    pub accesses_max : h.space.accesses ≤ g.space.accesses + 6 * length g.space.blocks + 40 * ranges_of r + 20

-- ---- calls as data
pub data Call : Type 0 where
  Allocate : ℕ → Call
  Allocate_aligned : ℕ → ℕ → Call
  Allocate_tight : ℕ → Call
  Allocate_tight_aligned : ℕ → ℕ → Call
  Allocate_at : ℕ → ℕ → Call
  Relocate : Ticket → Call
  Relocate_aligned : Ticket → ℕ → Call
  Relocate_unaligned : Ticket → Call
  Free : Ticket → Call
  Shrink : Ticket → ℕ → Call
  Grow_in_place : Ticket → ℕ → Call
  Extend : ℕ → Call
  Retract : ℕ → Call
  Raise_step : ℕ → Call
  Reset : Call
  Compact : Call
  Compact_by : ℕ → Call
  Compact_unaligned : Call
  Compact_within : ℕ → ℕ → ℕ → Call
  Compact_within_by : ℕ → ℕ → ℕ → ℕ → Call
  Make_room : ℕ → ℕ → Call
  Make_room_by : ℕ → ℕ → ℕ → Call
  Make_room_unaligned : ℕ → Call

-- what one returns
pub data Answer : Type 0 where
  Requested : Option Ticket → Answer
  Was_done : Bool → Answer
  Resized : Option Bool → Answer
  Progressed : Option Progress → Answer
  Room_made : Option RoomCost → Answer
  Nothing : Answer

-- moves, in their order
abbrev pub Notes : List Move → Move → List Move → Type 0
Notes ms m ns = ns ≡ ms ++ m ∷ []

-- a call is answered: what it returns, its moves, and what it leaves
abbrev pub Answers : Call → Guard → Guard → Answer → List Move → Type 0
Answers (Allocate n) g h a ms = (r : Option Ticket) × (a ≡ Requested r) × Allocates n g h r × (ms ≡ [])
Answers (Allocate_aligned n align) g h a ms = (r : Option Ticket) × (a ≡ Requested r) × AllocatesAligned n align g h r × (ms ≡ [])
Answers (Allocate_tight n) g h a ms = (r : Option Ticket) × (a ≡ Requested r) × AllocatesTight n g h r × (ms ≡ [])
Answers (Allocate_tight_aligned n align) g h a ms = (r : Option Ticket) × (a ≡ Requested r) × AllocatesTightAligned n align g h r × (ms ≡ [])
Answers (Allocate_at offset n) g h a ms = (r : Option Ticket) × (a ≡ Requested r) × AllocatesAt offset n g h r × (ms ≡ [])
Answers (Relocate t) g h a ms = (r : Option Ticket) × (a ≡ Requested r) × Relocates t g h r × (ms ≡ [])
Answers (Relocate_aligned t align) g h a ms = (r : Option Ticket) × (a ≡ Requested r) × RelocatesAligned t align g h r × (ms ≡ []) × (1 ≤ align)
Answers (Relocate_unaligned t) g h a ms = (r : Option Ticket) × (a ≡ Requested r) × RelocatesUnaligned t g h r × (ms ≡ [])
Answers (Free t) g h a ms = (r : Bool) × (a ≡ Was_done r) × Frees t g h r × (ms ≡ [])
Answers (Shrink t n) g h a ms = (r : Option Bool) × (a ≡ Resized r) × Shrinks t n g h r × (ms ≡ [])
Answers (Grow_in_place t n) g h a ms = (r : Option Bool) × (a ≡ Resized r) × Grows t n g h r × (ms ≡ [])
Answers (Extend more) g h a ms = (r : Bool) × (a ≡ Was_done r) × Extends more g h r × (ms ≡ [])
Answers (Retract less) g h a ms = (r : Bool) × (a ≡ Was_done r) × Retracts less g h r × (ms ≡ [])
Answers (Raise_step align) g h a ms = (a ≡ Nothing) × RaisesStep align g h × (ms ≡ [])
Answers Reset g h a ms = (a ≡ Nothing) × Resets g h × (ms ≡ [])
Answers Compact g h a ms = (r : Bool) × (a ≡ Was_done r) × Compacts Notes [] g h ms r
Answers (Compact_by s) g h a ms = (r : Bool) × (a ≡ Was_done r) × CompactsBy Notes s [] g h ms r
Answers Compact_unaligned g h a ms = (a ≡ Nothing) × CompactsUnaligned Notes [] g h ms
Answers (Compact_within from units ranges) g h a ms = (r : Option Progress) × (a ≡ Progressed r) × CompactsWithin Notes from units ranges [] g h ms r
Answers (Compact_within_by s from units ranges) g h a ms = (r : Option Progress) × (a ≡ Progressed r) × CompactsWithinBy Notes s from units ranges [] g h ms r
Answers (Make_room n align) g h a ms = (r : Option RoomCost) × (a ≡ Room_made r) × MakesRoom Notes n align [] g h ms r
Answers (Make_room_by n align s) g h a ms = (r : Option RoomCost) × (a ≡ Room_made r) × MakesRoomBy Notes n align s [] g h ms r
Answers (Make_room_unaligned n) g h a ms = (r : Option RoomCost) × (a ≡ Room_made r) × MakesRoomUnaligned Notes n [] g h ms r

-- a call goes by the step of the space, or by a multiple of it: so it keeps every alignment that was asked for
abbrev pub GoesByTheStep : Call → Guard → Type 0
GoesByTheStep (Compact_by s) g = g.step ∣ s
GoesByTheStep (Compact_within_by s from units ranges) g = g.step ∣ s
GoesByTheStep (Make_room_by n align s) g = g.step ∣ s
GoesByTheStep Compact_unaligned g = ⊥
GoesByTheStep (Make_room_unaligned n) g = ⊥
GoesByTheStep c g = Unit {0}

-- the alignment and the step of a call, where it has them, are at least 1, as its contract requires
abbrev pub IsAdmitted : Call → Type 0
IsAdmitted (Allocate_aligned n align) = 1 ≤ align
IsAdmitted (Allocate_tight_aligned n align) = 1 ≤ align
IsAdmitted (Relocate_aligned t align) = 1 ≤ align
IsAdmitted (Raise_step align) = 1 ≤ align
IsAdmitted (Compact_by s) = 1 ≤ s
IsAdmitted (Compact_within_by s from units ranges) = 1 ≤ s
IsAdmitted (Make_room n align) = 1 ≤ align
IsAdmitted (Make_room_by n align s) = (1 ≤ align) × (1 ≤ s)
IsAdmitted c = Unit {0}
