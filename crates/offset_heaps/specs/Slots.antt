-- What a call leaves of the heap of one number.
use Rattle.std.specs.Prelude.{◌≡◌, ℕ, ◌+◌, ◌<◌, ◌≤◌, ◌⊎◌, List, Option, Some, None, length, nat_lt, slice_set, if◌then◌else◌}
use Rattle.offset_allocator.specs.Reporting.FreeSizes.{largest}
use Rattle.offset_allocator.specs.Requests.{AdmitsBlocks, blocks_needed}
use Rattle.offset_allocator.specs.Tight.{CanHold, HasBlockFor}
use Rattle.offset_allocator.specs.View.{free_sizes}
use Rattle.offset_guarded.specs.Guard.{Guard, HasSerialLeft, Ticket}
use Rattle.offset_guarded.specs.Guard as guarded
use Rattle.offset_guarded.specs.Answers as tickets
use Rattle.offset_heaps.specs.declared.limits.Limits.{Limits}
use Rattle.offset_heaps.specs.Heaps.{IsRaisedAsNeeded, slot, range_in, top_limit}

-- a heap has room for the units and the blocks that a grant may add, under the node limit that it has
abbrev pub HasRoomNow : ℕ → ℕ → Option Guard → Type 0
HasRoomNow blocks units None = ⊥
HasRoomNow blocks units (Some g) = HasSerialLeft g × AdmitsBlocks blocks g.space × (units ≤ largest (free_sizes g.space.blocks))

-- the node limit of a heap is raised as needed, before a grant that may add this many blocks
abbrev pub RaisesIn : Limits → ℕ → ℕ → Option Guard → Option Guard → Type 0
RaisesIn limits k blocks None new = new ≡ None
RaisesIn limits k blocks (Some g) new = (h : Guard) × (new ≡ Some h) × IsRaisedAsNeeded limits k blocks g h

-- the heap of a number has a serial left, and a free block that holds a request, with room for the blocks that it may add,
-- under its largest node limit
abbrev pub CanHoldIn : Limits → ℕ → ℕ → ℕ → Option Guard → Type 0
CanHoldIn limits k size align None = ⊥
CanHoldIn limits k size align (Some g) = HasSerialLeft g × (length g.space.blocks + blocks_needed align < top_limit limits k g) × HasBlockFor size align g.space

-- the same under the node limit that it has
abbrev pub CanHoldNow : ℕ → ℕ → Option Guard → Type 0
CanHoldNow size align None = ⊥
CanHoldNow size align (Some g) = HasSerialLeft g × CanHold size align g.space

-- every other ticket has the range that it had
abbrev pub KeepsOthersIn : Ticket → Option Guard → Option Guard → Type 0
KeepsOthersIn t old new = (u : Ticket) → (guarded.AreAlike u t → ⊥) → range_in u new ≡ range_in u old

-- the space is one free block again, and the step is 1
abbrev pub ResetsIn : Option Guard → Option Guard → Type 0
ResetsIn None new = new ≡ None
ResetsIn (Some before) new = (after : Guard) × (new ≡ Some after) × tickets.Resets before after

-- the heap of one number is changed
pub record Changes (k : ℕ) (P : Option Guard → Option Guard → Type 0) (old new : List (Option Guard)) : Type 0 where
  pub now : Option Guard
  pub slots : new ≡ slice_set old k now
  pub by : P (slot k old) now

-- a number is kept, where it is below a limit
abbrev pub IsBelow : ℕ → Option ℕ → Option ℕ → Type 0
IsBelow limit None kept = kept ≡ None
IsBelow limit (Some k) kept = ((k < limit) × (kept ≡ Some k)) ⊎ ((limit ≤ k) × (kept ≡ None))

-- which of two heaps is kept: the one with fewer live units, or the second where both have the same number. A heap in which
-- nothing is live is not kept
abbrev pub IsEmptier : Option (ℕ × ℕ) → ℕ → Option ℕ → Option (ℕ × ℕ) → Type 0
IsEmptier found k None kept = kept ≡ found
IsEmptier None k (Some n) kept = kept ≡ Some (k, n)
IsEmptier (Some f) k (Some n) kept = kept ≡ (if nat_lt f.1 n then Some f else Some (k, n))
