-- A space with tickets beside a plain list of blocks: which call of the plain machine one of tickets is, and when their
-- answers agree.
use Rattle.std.specs.Prelude.{◌≡◌, ℕ, ◌≤◌, ◌⊎◌, max, Bool, true, false, not, List, [], ◌∷◌, map, Option, Some, None, is_some, nat_eq, nat_lt, if◌then◌else◌}
use Rattle.std.specs.Int.{IsGcd}
use Rattle.offset_allocator.specs.Moving.Compacting as named
use Rattle.offset_allocator.specs.Moving.Relocating.{offset_of}
use Rattle.offset_guarded.specs.Answers as tickets
use Rattle.offset_guarded.specs.Answers.Answer.{Nothing, Progressed, Requested, Room_made, Was_done}
use Rattle.offset_guarded.specs.Answers.Call.{Allocate, Allocate_aligned, Allocate_tight, Allocate_tight_aligned, Allocate_at, Relocate, Relocate_aligned, Relocate_unaligned, Free, Shrink, Grow_in_place, Extend, Retract, Raise_step, Reset, Compact, Compact_by, Compact_unaligned, Compact_within, Compact_within_by, Make_room, Make_room_by, Make_room_unaligned}
use Rattle.offset_guarded.specs.Guard.{Guard, Ticket, last_serial, range_of, serial_of}
use Rattle.offset_script.specs.Agreement.{IsAtState}
use Rattle.offset_script.specs.Machine.{State, start}
use Rattle.offset_script.specs.Machine as machine
use Rattle.offset_script.specs.declared.scripts.Command.TheVariants as command
use Rattle.offset_calls.specs.Calls.{Answer, Compacted, CompactedWithin, Move, Reply, Resized, RoomMade, step}
use Rattle.offset_calls.specs.Tickets.{AreAllTickets, handles_of}
use Rattle.offset_calls.specs.declared.calls.Call.{Call}
use Rattle.offset_calls.specs.declared.calls.Call.TheVariants as call

-- ---- plain lists

-- what is done to a plain list: a call of the plain machine, or its node limit is raised
pub data Change : Type 0 where
  Called : Call → Change
  Raised : ℕ → Change

-- a state after a change, and after several
abbrev pub changed : Change → State → State
changed (Called c) s = (step c s).state
changed (Raised limit) s = record s { limit = max s.limit limit }

abbrev pub all_changed : List Change → State → State
all_changed [] s = s
all_changed (c ∷ cs) s = all_changed cs (changed c s)

-- a space shows a plain list, which changes have made of one free block: the same sizes and limit, the same order in each
-- bin, and live where a ticket of that grant is
pub record IsPlain (g : Guard) (s : State) : Type 0 where
  pub size : ℕ
  pub limit : ℕ
  pub low : 2 ≤ limit
  pub changes : List Change
  pub made : s ≡ all_changed changes (start size limit)
  pub tickets : List Ticket
  pub all : AreAllTickets g tickets
  pub shows : IsAtState g.space (handles_of g tickets) s

-- ---- calls

-- the number of the grant of a ticket, or 0 where it is not live
abbrev pub number : Guard → Ticket → ℕ
number g t = if is_some (range_of t g) then t.serial else 0

-- a request, while a serial is left
abbrev pub while_left : Guard → Call → Option Call
while_left g c = if nat_lt g.given last_serial then Some c else None

-- a call that goes by the step of the space, where there is one
abbrev pub by_step : Guard → Call → Option Call
by_step g c = if nat_eq g.step 0 then None else Some c

-- the call of the plain machine that one of tickets is, with the number of a grant in place of its ticket; or none, where
-- nothing can be done
abbrev pub IsCall : tickets.Call → Guard → Option Call → Type 0
IsCall (Allocate n) g o = o ≡ while_left g (call.Command (command.Alloc n))
IsCall (Allocate_aligned n align) g o = o ≡ while_left g (call.Command (command.Align n align))
IsCall (Allocate_tight n) g o = o ≡ while_left g (call.AllocateTight n)
IsCall (Allocate_tight_aligned n align) g o = o ≡ while_left g (call.AllocateTightAligned n align)
IsCall (Allocate_at offset n) g o = o ≡ while_left g (call.AllocateAt offset n)
-- at a multiple of what the offset of the range and the step have in common
IsCall (Relocate t) g o = ((g.step ≡ 0) × (o ≡ None))
    ⊎ ((1 ≤ g.step) × (align : ℕ) × IsGcd (offset_of t.name g.space) g.step align × (o ≡ while_left g (call.RelocateAligned (number g t) align)))
IsCall (Relocate_aligned t align) g o = o ≡ while_left g (call.RelocateAligned (number g t) align)
IsCall (Relocate_unaligned t) g o = o ≡ while_left g (call.Relocate (number g t))
IsCall (Free t) g o = o ≡ Some (call.Command (command.Free (number g t)))
IsCall (Shrink t n) g o = o ≡ Some (call.Shrink (number g t) n)
IsCall (Grow_in_place t n) g o = o ≡ Some (call.Grow (number g t) n)
IsCall (Extend more) g o = o ≡ Some (call.Command (command.Extend more))
IsCall (Retract less) g o = o ≡ Some (call.Retract less)
IsCall (Raise_step align) g o = o ≡ None
IsCall Reset g o = o ≡ Some (call.Command command.Reset)
IsCall Compact g o = o ≡ by_step g (call.CompactBy g.step)
IsCall (Compact_by s) g o = o ≡ Some (call.CompactBy s)
IsCall Compact_unaligned g o = o ≡ Some call.Compact
IsCall (Compact_within from units ranges) g o = o ≡ by_step g (call.CompactWithin g.step from units ranges)
IsCall (Compact_within_by s from units ranges) g o = o ≡ Some (call.CompactWithin s from units ranges)
IsCall (Make_room n align) g o = o ≡ by_step g (call.MakeRoomBy n align g.step)
IsCall (Make_room_by n align s) g o = o ≡ Some (call.MakeRoomBy n align s)
IsCall (Make_room_unaligned n) g o = o ≡ Some (call.MakeRoom n)

-- ---- answers

-- whether a reply says that nothing was done
abbrev pub is_no : Reply → Bool
is_no (Answer machine.Refused) = true
is_no (Answer machine.Gone) = true
is_no other = false

-- the moves in a reply
abbrev pub moves_in : Reply → List Move
moves_in (Compacted ms) = ms
moves_in (CompactedWithin next ms) = ms
moves_in (RoomMade cost ms) = ms
moves_in other = []

-- the move of the range of a name, with the number of its grant
abbrev pub numbered : Guard → named.Move → Move
numbered g m = record { number = serial_of m.name g; from = m.from; to = m.to; size = m.size }

-- an answer says what a reply says, beside its moves: the ticket of a grant has the number and the offset in the reply
abbrev pub Says : tickets.Answer → Reply → Type 0
Says (Requested None) r = is_no r ≡ true
Says (Requested (Some t)) r = r ≡ Answer (machine.Grant t.serial t.offset)
Says (Was_done d) r = d ≡ not (is_no r)
Says (tickets.Answer.Resized None) r = r ≡ Answer machine.Gone
Says (tickets.Answer.Resized (Some d)) r = r ≡ (if d then Resized else Answer machine.Refused)
Says (Progressed None) r = r ≡ Answer machine.Refused
Says (Progressed (Some p)) r = (ms : List Move) × (r ≡ CompactedWithin p.next ms)
Says (Room_made cost) r = (ms : List Move) × (r ≡ RoomMade cost ms)
Says Nothing r = is_no r ≡ false

-- an answer says that nothing was done
abbrev pub SaysNo : tickets.Answer → Type 0
SaysNo (Requested t) = t ≡ None
SaysNo (Was_done d) = d ≡ false
SaysNo (tickets.Answer.Resized d) = ⊥
SaysNo (Progressed p) = p ≡ None
SaysNo (Room_made cost) = cost ≡ None
SaysNo Nothing = Unit {0}

-- an answer with its moves is that of the plain machine to this call, from the state s, and t is left; or to none
abbrev pub Plays : Option Call → Guard → tickets.Answer → List named.Move → State → State → Type 0
Plays None g a ms s t = SaysNo a × (ms ≡ []) × (t ≡ s)
Plays (Some c) g a ms s t = Says a (step c s).reply × (moves_in (step c s).reply ≡ map (numbered g) ms) × (t ≡ (step c s).state)
