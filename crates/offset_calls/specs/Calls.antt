-- The plain stamped machine over every call: beside the commands of a script, the calls that resize a range, compact
-- the space, by whole steps too and within a budget, make room for a request, by whole steps too, take any free block that
-- is large enough, take the units at an offset, grant a second range, take units off the end, and ask where a range begins,
-- where a request's grant would begin, why it would be refused, what room would cost, by whole steps too, and which live
-- range is the first, the last, or beside one. States and stamps are those of the script's machine.
use Rattle.std.specs.Prelude.{ℕ, ◌+◌, ◌-◌, max, min, Bool, true, false, not, ◌&&◌, ◌||◌, List, [], ◌∷◌, ◌++◌, length, map, sum, Option, Some, None, is_some, nat_eq, nat_lt, nat_le, if◌then◌else◌}
use Rattle.offset_allocator.specs.declared.reports.Refusal as allocator
use Rattle.offset_allocator.specs.declared.reports.Refusal.TheVariants.{Nodes, TooLarge, Space, Fragmented}
use Rattle.offset_allocator.specs.Classes.{value, up}
use Rattle.offset_script.specs.Grammar.{has_valid_alignment}
use Rattle.offset_script.specs.Machine.{Tag, Live, Free, Block, block, is_free, total, free_sizes, Place, place_of, chosen_place, free_part, units_at_start, without_start, State, is_short_of}
use Rattle.offset_script.specs.Machine.{stamp_of_call, answer_view}
use Rattle.offset_script.specs.Machine as machine
use Rattle.offset_script.specs.Totals.{live}
use Rattle.offset_calls.specs.declared.calls.Call.{Call}
use Rattle.offset_calls.specs.declared.calls.Call.TheVariants as call
use Rattle.offset_calls.specs.declared.calls.Moved.{Moved}
use Rattle.offset_allocator.specs.declared.moves.room.RoomCost as room
use Rattle.offset_calls.specs.Room.{Split, cost_of, cheapest, room_cost, slid}
use Rattle.offset_calls.specs.RoomBySteps.{cheapest_by, room_cost_by}
use Rattle.offset_calls.specs.AtOffset.{allocate_at}
use Rattle.offset_calls.specs.Tight.{allocate_tight, reason_tight}
use Rattle.offset_calls.specs.Ending.{relocate, relocate_aligned, can_retract, retracted, first_live, last_live, live_before, live_after}
use Rattle.offset_calls.specs.Stepped.{kept, used_up, first_run, slid_run, to_the_end}
use Rattle.offset_calls.specs.Budget.{is_within, longest_that, next_of}
use Rattle.offset_calls.specs.declared.calls.LiveRange.{LiveRange}
use Rattle.offset_calls.specs.declared.calls.Reply as program
use Rattle.offset_calls.specs.declared.calls.Reply.TheVariants as program_reply

-- ---- replies

-- the move of the range of a grant
pub record Move : Type 0 where
  pub number : ℕ
  pub from : ℕ
  pub to : ℕ
  pub size : ℕ

-- the reply to a call
pub data Reply : Type 0 where
  -- the answer that a command has, or another call too
  Answer : machine.Answer → Reply
  Resized : Reply
  Compacted : List Move → Reply
  CompactedWithin : Option ℕ → List Move → Reply
  Offset : ℕ → Reply
  Refusal : Option allocator.Refusal → Reply
  RoomMade : Option room.RoomCost → List Move → Reply
  RoomCost : Option room.RoomCost → Reply
  Found : Option LiveRange → Reply

-- the state that a call leaves, and the reply
pub record Outcome : Type 0 where
  pub state : State
  pub reply : Reply

-- what a command does
abbrev pub answered : machine.Outcome → Outcome
answered o = record { state = o.state; reply = Answer o.answer }

-- a call that leaves the blocks as they are
abbrev pub replies_only : State → Reply → Outcome
replies_only s r = record { state = record s { calls = s.calls + 1 }; reply = r }

-- a call that leaves these blocks
abbrev pub remakes : State → List Block → Reply → Outcome
remakes s bs r = record { state = record s { calls = s.calls + 1; blocks = bs }; reply = r }

-- ---- resizing

-- whether a list begins with a free block
abbrev pub starts_free : List Block → Bool
starts_free [] = false
starts_free (b ∷ bs) = is_free b.tag

-- a live block can shrink to n units: it has at least as many, and a free block is directly after it or one more block
-- may exist
abbrev pub can_shrink : ℕ → State → Place → Bool
can_shrink n s p = nat_le n p.block.size && (starts_free p.after || not (is_short_of 1 s))

-- a live block can grow to n units: it has at most as many, and with the free block directly after it at least as many
abbrev pub can_grow : ℕ → Place → Bool
can_grow n p = nat_le p.block.size n && nat_le n (p.block.size + units_at_start p.after)

-- a live block and the free block directly after it become n live units and a free block of the rest
abbrev pub resized : ℕ → State → Place → Outcome
resized n s p = remakes s (p.before ++ (block n p.block.tag
    ∷ (free_part (p.block.size + units_at_start p.after - n) (stamp_of_call s) ++ without_start p.after))) Resized

-- a live block gets n units, where it can; nothing changes where it has as many
abbrev pub resize : (Place → Bool) → ℕ → State → Option Place → Outcome
resize can n s None = replies_only s (Answer machine.Gone)
resize can n s (Some p) =
    if nat_eq n p.block.size then replies_only s Resized
    else if can p then resized n s p
    else replies_only s (Answer machine.Refused)

-- ---- the end of the space

-- n units go off the end, where they can
abbrev pub retract : ℕ → State → Outcome
retract n s =
    if can_retract n s.blocks then remakes s (retracted n (stamp_of_call s) s.blocks) Resized
    else replies_only s (Answer machine.Refused)

-- ---- compacting

-- the number of the grant of a live block
abbrev pub number : Tag → ℕ
number (Live k) = k
number (Free s) = 0

-- the move of a live block, where it goes to another offset
abbrev pub move_of : ℕ → ℕ → Block → List Move
move_of from to b =
    if nat_eq from to then []
    else record { number = number b.tag; from = from; to = to; size = b.size } ∷ []

-- the moves of the live ones of blocks that begin at an offset, if they are packed from another offset on
abbrev pub moves : ℕ → ℕ → List Block → List Move
moves from to [] = []
moves from to (b ∷ bs) =
    if is_free b.tag then moves (from + b.size) to bs
    else move_of from to b ++ moves (from + b.size) (to + b.size) bs

-- one free block of all these sizes, or nothing where there are none
abbrev pub gathered : ℕ → List ℕ → List Block
gathered stamp [] = []
gathered stamp (n ∷ ns) = block (n + sum ns) (Free stamp) ∷ []

-- the live blocks come first, in their order, and all free units are one block after them
abbrev pub compact : State → Outcome
compact s = remakes s (live s.blocks ++ gathered (stamp_of_call s) (free_sizes s.blocks))
    (Compacted (moves 0 0 s.blocks))

-- ---- compacting by whole steps

-- the moves of the live ones of blocks that begin at an offset, if they are packed from another offset on, with what
-- the free ones keep between them
abbrev pub moves_by : ℕ → ℕ → ℕ → List Block → List Move
moves_by n from to [] = []
moves_by n from to (b ∷ bs) =
    if is_free b.tag then moves_by n (from + b.size) (to + kept n b.size bs) bs
    else move_of from to b ++ moves_by n (from + b.size) (to + b.size) bs

-- the moves where a run slides by steps of n
abbrev pub moves_of_run : ℕ → Split → List Move
moves_of_run n p = moves_by n (total p.front) (total p.front) p.run

-- a run slides, with this reply; it is refused where the node limit admits no block after it, and none of its blocks is used
-- up, which would make place for it
abbrev pub slides_run : ℕ → State → Reply → Split → Outcome
slides_run n s r p =
    if nat_eq (used_up n p.run) 0 && is_short_of 1 s then replies_only s (Answer machine.Refused)
    else record { state = slid_run n s p; reply = r }

-- all blocks from the first free one of at least n units on slide; nothing changes where there is none with a block after it
abbrev pub compact_by : ℕ → State → Option Split → Outcome
compact_by n s None = replies_only s (Compacted [])
compact_by n s (Some p) = slides_run n s (Compacted (moves_by n 0 0 s.blocks)) p

-- blocks from the first free one on that has n units and does not end before `from` slide, as far as the budget goes
abbrev pub compact_within : ℕ → State → Option Split → Outcome
compact_within n s None = replies_only s (CompactedWithin None [])
compact_within n s (Some p) = slides_run n s (CompactedWithin (next_of p) (moves_of_run n p)) p

-- ---- making room

-- a run slides, where it has live blocks; else nothing changes
abbrev pub make_room : State → Option Split → Outcome
make_room s None = replies_only s (RoomMade None [])
make_room s (Some p) =
    if nat_eq (length (live p.run)) 0 then replies_only s (RoomMade (Some (cost_of p.run)) [])
    else remakes s (slid (stamp_of_call s) p)
    (RoomMade (Some (cost_of p.run)) (moves (total p.front) (total p.front) p.run))

-- the same by steps of n
abbrev pub make_room_by : ℕ → State → Option Split → Outcome
make_room_by n s None = replies_only s (RoomMade None [])
make_room_by n s (Some p) =
    if nat_eq (length (live p.run)) 0 then replies_only s (RoomMade (Some (cost_of p.run)) [])
    else record { state = slid_run n s p; reply = RoomMade (Some (cost_of p.run)) (moves_of_run n p) }

-- ---- questions

-- where the block at a place begins
abbrev pub offset_at : Option Place → Reply
offset_at None = Answer machine.Gone
offset_at (Some p) = Offset (total p.before)

-- where a grant begins with this answer, or that it is refused
abbrev pub begin_of : machine.Answer → Reply
begin_of (machine.Grant k o) = Offset o
begin_of other = Answer machine.Refused

-- the live range beside the block at a place
abbrev pub beside : (Place → Option LiveRange) → Option Place → Reply
beside f None = Answer machine.Gone
beside f (Some p) = Found (f p)

-- why no block is chosen for n units, in a space of this size with this many units free
abbrev pub shortage : ℕ → ℕ → ℕ → allocator.Refusal
shortage n size free =
    if nat_lt size (value (up n)) then TooLarge
    else if nat_lt free (max 1 (value (up n))) then Space
    else Fragmented

-- why a request is refused that may add `more` blocks and takes the block chosen for n units
abbrev pub reason : ℕ → ℕ → State → Option allocator.Refusal
reason more n s =
    if is_short_of more s then Some Nodes
    else if is_some (chosen_place n s.blocks) then None
    else Some (shortage n (total s.blocks) (sum (free_sizes s.blocks)))

-- ---- calls

-- what one call leaves and replies
abbrev pub step : Call → State → Outcome
step (call.Command c) s = answered (machine.step c s)
step (call.Shrink k n) s = resize (can_shrink n s) n s (place_of k s.blocks)
step (call.Grow k n) s = resize (can_grow n) n s (place_of k s.blocks)
step call.Compact s = compact s
step (call.CompactBy n) s = compact_by n s (first_run to_the_end n 0 0 s.blocks)
step (call.CompactWithin n from u r) s =
    compact_within n s (first_run (longest_that (is_within u r)) n from 0 s.blocks)
step (call.Offset k) s = replies_only s (offset_at (place_of k s.blocks))
step (call.Refusal n) s = replies_only s (Refusal (reason 1 n s))
step (call.RefusalAligned n align) s =
    replies_only s (Refusal (if nat_le align 1 then reason 1 n s else reason 2 (n + align - 1) s))
step (call.AllocateTight n) s = answered (allocate_tight n 1 s)
step (call.AllocateTightAligned n align) s = answered (allocate_tight n align s)
step (call.AllocateAt offset n) s = answered (allocate_at offset n s)
step (call.RefusalTight n) s = replies_only s (Refusal (reason_tight n 1 s))
step (call.RefusalTightAligned n align) s = replies_only s (Refusal (reason_tight n align s))
step (call.WouldBegin n align) s = replies_only s (begin_of (machine.allocate_aligned n align s).answer)
step (call.MakeRoom n) s = make_room s (cheapest (value (up n)) s.blocks)
step (call.MakeRoomBy n align m) s =
    make_room_by m s (cheapest_by m (value (up (n + align - 1))) (min align 2) s)
step (call.RoomCost n) s = replies_only s (RoomCost (room_cost (value (up n)) s.blocks))
step (call.RoomCostBy n align m) s =
    replies_only s (RoomCost (room_cost_by m (value (up (n + align - 1))) (min align 2) s))
step (call.Relocate k) s = answered (relocate s (place_of k s.blocks))
step (call.RelocateAligned k align) s = answered (relocate_aligned align s (place_of k s.blocks))
step (call.Retract n) s = retract n s
step call.FirstLive s = replies_only s (Found (first_live 0 s.blocks))
step call.LastLive s = replies_only s (Found (last_live 0 s.blocks))
step (call.LiveBefore k) s = replies_only s (beside live_before (place_of k s.blocks))
step (call.LiveAfter k) s = replies_only s (beside live_after (place_of k s.blocks))

-- the replies to calls in order
abbrev pub replies : List Call → State → List Reply
replies [] s = []
replies (c ∷ cs) s = (step c s).reply ∷ replies cs (step c s).state

-- the state that calls in order leave
abbrev pub after : List Call → State → State
after [] s = s
after (c ∷ cs) s = after cs (step c s).state

-- whether a call is a command of a script
abbrev pub is_command : Call → Bool
is_command (call.Command c) = true
is_command other = false

-- each alignment and each step is at least 1
abbrev pub is_valid : Call → Bool
is_valid (call.Command c) = has_valid_alignment c
is_valid (call.RefusalAligned n align) = nat_le 1 align
is_valid (call.AllocateTightAligned n align) = nat_le 1 align
is_valid (call.RefusalTightAligned n align) = nat_le 1 align
is_valid (call.WouldBegin n align) = nat_le 1 align
is_valid (call.RelocateAligned k align) = nat_le 1 align
is_valid (call.CompactBy n) = nat_le 1 n
is_valid (call.CompactWithin n from u r) = nat_le 1 n
is_valid (call.MakeRoomBy n align m) = nat_le 1 align && nat_le 1 m
is_valid (call.RoomCostBy n align m) = nat_le 1 align && nat_le 1 m
is_valid other = true

-- ---- the replies of the program

-- a move, as the machine has it
abbrev pub move_view : Moved → Move
move_view m = record { number = m.number; from = m.from; to = m.to; size = m.size }

-- a reply, as the machine has it
abbrev pub reply_view : program.Reply → Reply
reply_view (program_reply.Answer a) = Answer (answer_view a)
reply_view program_reply.Resized = Resized
reply_view (program_reply.Compacted ms) = Compacted (map move_view ms.items)
reply_view (program_reply.CompactedWithin p ms) = CompactedWithin p (map move_view ms.items)
reply_view (program_reply.Offset n) = Offset n
reply_view (program_reply.Refusal r) = Refusal r
reply_view (program_reply.RoomMade c ms) = RoomMade c (map move_view ms.items)
reply_view (program_reply.RoomCost c) = RoomCost c
reply_view (program_reply.Found r) = Found r
