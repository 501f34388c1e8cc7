-- The named step of each call.
use Rattle.std.specs.Prelude.{◌≡◌, ◌≤◌, ◌↔◌, ◌+◌, ℕ, IsSome, Bool, true, List, [], ◌∷◌, length, Option, Some, None, IfSome, option_map, slice_index, if◌then◌else◌}
use Rattle.std.specs.List.{AllByRecursion}
use Rattle.offset_allocator.specs.declared.reports.Refusal.{Refusal}
use Rattle.offset_allocator.specs.View.{View, Block, Handle, padding_to}
use Rattle.offset_allocator.specs.Ranges.{Range, range_of}
use Rattle.offset_allocator.specs.Requests.{CanGrant, IsWhy, blocks_needed, units_needed}
use Rattle.offset_allocator.specs.Resizing.{Shrinks, Grows}
use Rattle.offset_allocator.specs.Moving.Compacting as named
use Rattle.offset_allocator.specs.declared.moves.room.RoomCost.{RoomCost}
use Rattle.offset_allocator.specs.Classes.{value, up}
use Rattle.offset_allocator.specs.Moving.Room.{IsLeastCost}
use Rattle.offset_allocator.specs.Moving.RoomBySteps.{IsLeastCostBy, names_short}
use Rattle.offset_allocator.specs.Reporting.Walking as named_beside
use Rattle.offset_allocator.specs.Moving.Relocating.{Relocates, RelocatesAligned, WouldBegin}
use Rattle.offset_allocator.specs.Moving.Retracting.{Retracts}
use Rattle.offset_allocator.specs.AtOffset.{AllocatesAt}
use Rattle.offset_allocator.specs.Tight.{AlignsTight, CanHold, IsWhyTight}
use Rattle.offset_script.specs.Steps.{kept_name, AreNamedApart, IfNamed, IsKept, Stays}
use Rattle.offset_script.specs.Machine as machine
use Rattle.offset_script.specs.Steps as script
use Rattle.offset_calls.specs.declared.calls.Call.{Call}
use Rattle.offset_calls.specs.declared.calls.Call.TheVariants as call
use Rattle.offset_calls.specs.Calls.{Move, Reply, Answer, Resized, Offset, Found}
use Rattle.offset_calls.specs.Calls as reply
use Rattle.offset_calls.specs.Slides.{IsSlid, slid_reply}
use Rattle.offset_calls.specs.declared.sliding.Slid.{Slid}
use Rattle.offset_calls.specs.declared.calls.LiveRange.{LiveRange}

-- the moves of a compaction, each with the number of the grant whose handle has its name
abbrev pub AreNumbered : List (Option Handle) → List named.Move → List Move → Type 0
AreNumbered handles [] [] = Unit {0}
AreNumbered handles (m ∷ ms) (r ∷ rs) = (kept_name handles r.number ≡ Some m.name) × (r.from ≡ m.from) × (r.to ≡ m.to)
    × (r.size ≡ m.size) × AreNumbered handles ms rs
AreNumbered handles ms rs = ⊥

-- why a request for these blocks and units is refused, or nothing where it is granted
abbrev pub IsReason : ℕ → ℕ → View → Option Refusal → Type 0
IsReason blocks units v r = (r ≡ None ↔ CanGrant blocks units v) × IfSome r (IsWhy blocks units v)

-- where the grant of a request would begin, or nothing where it would be refused
abbrev pub IsBegin : ℕ → ℕ → View → Option ℕ → Type 0
IsBegin n align v b = (IsSome b ↔ CanGrant (blocks_needed align) (units_needed n align) v)
    × ((o : ℕ) → CanGrant (blocks_needed align) (units_needed n align) v → WouldBegin (units_needed n align) v o → b ≡ Some (o + padding_to align o))

-- the reply that says so
abbrev pub begins_at : Option ℕ → Reply
begins_at None = Answer machine.Refused
begins_at (Some o) = Offset o

-- why a tight request would be refused, which takes any free block that holds it
abbrev pub IsReasonTight : ℕ → ℕ → View → Option Refusal → Type 0
IsReasonTight n align v r = (r ≡ None ↔ CanHold n align v) × IfSome r (IsWhyTight n align v)

-- a tight request, whose grant is kept, with this reply
abbrev pub TakesTight : ℕ → ℕ → View → List (Option Handle) → View → List (Option Handle) → Reply → Type 0
TakesTight n align v handles w later r = (g : Option Handle) × (a : machine.Answer) × AlignsTight n align v w g
    × IsKept g handles later a × (r ≡ Answer a)

-- a request for the n units from an offset on, whose grant is kept, with this reply
abbrev pub TakesAt : ℕ → ℕ → View → List (Option Handle) → View → List (Option Handle) → Reply → Type 0
TakesAt offset n v handles w later r = (g : Option Handle) × (a : machine.Answer) × AllocatesAt offset n v w g
    × IsKept g handles later a × (r ≡ Answer a)

-- a call that may slide ranges comes to something, and its moves are replied with the numbers of their grants
abbrev pub TakesSlide : Call → View → List (Option Handle) → View → Reply → Type 0
TakesSlide c v handles w r = (o : Slid) × (xs : List named.Move) × IsSlid c v o w xs
    × (ms : List Move) × AreNumbered handles xs ms × (r ≡ slid_reply o ms)

-- a live range, or none, with the number of the grant whose handle has its name
abbrev pub IsNumbered : List (Option Handle) → Option Handle → Option LiveRange → Type 0
IsNumbered handles None None = Unit {0}
IsNumbered handles (Some g) (Some r) = (kept_name handles r.number ≡ Some g.name) × (r.offset ≡ g.offset)
IsNumbered handles g r = ⊥

-- the reply to a question for this live range, or for none
abbrev pub Finds : List (Option Handle) → Option Handle → Reply → Type 0
Finds handles g r = (found : Option LiveRange) × IsNumbered handles g found × (r ≡ Found found)

-- the step of a call from the view v to the view w, with this reply: the handles of the grants so far are those in
-- `handles` before it, and in `later` after it, that of grant k at k - 1 while the grant is live
abbrev pub Takes : Call → View → List (Option Handle) → View → List (Option Handle) → Reply → Type 0
Takes (call.Command c) v handles w later r = (a : machine.Answer) × script.Takes c v handles w later a × (r ≡ Answer a)
Takes (call.Shrink k n) v handles w later r = IfNamed (kept_name handles k)
    (λ x. (done : Bool) × Shrinks x n v w done × (later ≡ handles)
    × (r ≡ (if done then Resized else Answer machine.Refused)))
    (Stays v handles w later × (r ≡ Answer machine.Gone))
Takes (call.Grow k n) v handles w later r = IfNamed (kept_name handles k)
    (λ x. (done : Bool) × Grows x n v w done × (later ≡ handles)
    × (r ≡ (if done then Resized else Answer machine.Refused)))
    (Stays v handles w later × (r ≡ Answer machine.Gone))
Takes call.Compact v handles w later r = TakesSlide call.Compact v handles w r × (later ≡ handles)
Takes (call.CompactBy n) v handles w later r = TakesSlide (call.CompactBy n) v handles w r × (later ≡ handles)
Takes (call.CompactWithin n from u m) v handles w later r =
    TakesSlide (call.CompactWithin n from u m) v handles w r × (later ≡ handles)
Takes (call.Offset k) v handles w later r = Stays v handles w later × IfNamed (kept_name handles k)
    (λ x. (o : ℕ) × (option_map (λ (q : Range). q.offset) (range_of x v) ≡ Some o) × (r ≡ Offset o))
    (r ≡ Answer machine.Gone)
Takes (call.Refusal n) v handles w later r = Stays v handles w later
    × ((why : Option Refusal) × IsReason 1 n v why × (r ≡ reply.Refusal why))
Takes (call.RefusalAligned n align) v handles w later r = Stays v handles w later
    × ((why : Option Refusal) × IsReason (blocks_needed align) (units_needed n align) v why × (r ≡ reply.Refusal why))
Takes (call.AllocateTight n) v handles w later r = TakesTight n 1 v handles w later r
Takes (call.AllocateTightAligned n align) v handles w later r = TakesTight n align v handles w later r
Takes (call.AllocateAt offset n) v handles w later r = TakesAt offset n v handles w later r
Takes (call.RefusalTight n) v handles w later r = Stays v handles w later
    × ((why : Option Refusal) × IsReasonTight n 1 v why × (r ≡ reply.Refusal why))
Takes (call.RefusalTightAligned n align) v handles w later r = Stays v handles w later
    × ((why : Option Refusal) × IsReasonTight n align v why × (r ≡ reply.Refusal why))
Takes (call.WouldBegin n align) v handles w later r = Stays v handles w later × (1 ≤ align)
    × ((b : Option ℕ) × IsBegin n align v b × (r ≡ begins_at b))
Takes (call.MakeRoom n) v handles w later r = TakesSlide (call.MakeRoom n) v handles w r × (later ≡ handles)
Takes (call.MakeRoomBy n align m) v handles w later r =
    TakesSlide (call.MakeRoomBy n align m) v handles w r × (later ≡ handles)
Takes (call.RoomCost n) v handles w later r = Stays v handles w later
    × ((c : Option RoomCost) × IsLeastCost (value (up n)) v.blocks c × (r ≡ reply.RoomCost c))
Takes (call.RoomCostBy n align m) v handles w later r = Stays v handles w later
    × ((c : Option RoomCost) × IsLeastCostBy m (value (up (units_needed n align))) (names_short (blocks_needed align) v) v.blocks c
    × (r ≡ reply.RoomCost c))
Takes (call.Relocate k) v handles w later r = IfNamed (kept_name handles k)
    (λ x. (g : Option Handle) × (a : machine.Answer) × Relocates x v w g
    × IsKept g handles later a × (r ≡ Answer a))
    (Stays v handles w later × (r ≡ Answer machine.Gone))
Takes (call.RelocateAligned k align) v handles w later r = (1 ≤ align) × IfNamed (kept_name handles k)
    (λ x. (g : Option Handle) × (a : machine.Answer) × RelocatesAligned x align v w g
    × IsKept g handles later a × (r ≡ Answer a))
    (Stays v handles w later × (r ≡ Answer machine.Gone))
Takes (call.Retract n) v handles w later r = (done : Bool) × Retracts n v w done × (later ≡ handles)
    × (r ≡ (if done then Resized else Answer machine.Refused))
Takes call.FirstLive v handles w later r = Stays v handles w later × Finds handles (named_beside.first_live v) r
Takes call.LastLive v handles w later r = Stays v handles w later × Finds handles (named_beside.last_live v) r
Takes (call.LiveBefore k) v handles w later r = Stays v handles w later
    × IfNamed (kept_name handles k) (λ x. Finds handles (named_beside.live_before x v) r)
    (r ≡ Answer machine.Gone)
Takes (call.LiveAfter k) v handles w later r = Stays v handles w later
    × IfNamed (kept_name handles k) (λ x. Finds handles (named_beside.live_after x v) r)
    (r ≡ Answer machine.Gone)

-- each used block has a handle that is kept
abbrev pub AreKept : View → List (Option Handle) → Type 0
AreKept v handles =
    AllByRecursion (λ (b : Block). b.used ≡ true → (k : ℕ) × (kept_name handles k ≡ Some b.name)) v.blocks

-- a grant, if there is one, has the name of a handle that is kept
abbrev pub IsKeptSome : List (Option Handle) → Option Handle → Type 0
IsKeptSome handles o = (g : Handle) → o ≡ Some g → (k : ℕ) × (kept_name handles k ≡ Some g.name)

-- No two handles that are kept have one name, and at the name of each of the first `read` that is kept is the number of
-- its grant.
pub record AreNumbers (handles : List (Option Handle)) (read : ℕ) (numbers : List ℕ) : Type 0 where
  pub within : read ≤ length handles
  pub apart : AreNamedApart handles
  pub numbered : (k x : ℕ) → k ≤ read → kept_name handles k ≡ Some x → slice_index numbers x ≡ k
