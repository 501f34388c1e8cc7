-- What calls that may slide ranges come to, and their moves: as the allocator reports them, and with the numbers of their grants.
use Rattle.std.specs.Prelude.{◌≡◌, ℕ, Bool, List, [], ◌∷◌, ◌++◌, Option, Some, None, if◌then◌else◌}
use Rattle.offset_allocator.specs.declared.moves.room.RoomCost.{RoomCost}
use Rattle.offset_allocator.specs.declared.moves.over_frames.Progress.{Progress}
use Rattle.offset_allocator.specs.Classes.{value, up}
use Rattle.offset_allocator.specs.Moving.Budget.{CompactsWithin}
use Rattle.offset_allocator.specs.Moving.BySteps.{CompactsBy, moves_by}
use Rattle.offset_allocator.specs.Moving.Compacting.{Compacts}
use Rattle.offset_allocator.specs.Moving.Compacting as named
use Rattle.offset_allocator.specs.Moving.Room.{IsLeastCost, MakesRoom}
use Rattle.offset_allocator.specs.Moving.RoomBySteps.{IsLeastCostBy, MakesRoomBy, names_short}
use Rattle.offset_allocator.specs.Requests.{blocks_needed, units_needed}
use Rattle.offset_allocator.specs.View.{Handle, View}
use Rattle.offset_calls.specs.declared.calls.Call.{Call}
use Rattle.offset_calls.specs.declared.calls.Call.TheVariants as call
use Rattle.offset_calls.specs.declared.calls.Moved.{Moved}
use Rattle.offset_calls.specs.declared.sliding.Slid.{Slid}
use Rattle.offset_calls.specs.declared.sliding.Slid.TheVariants as came
use Rattle.offset_calls.specs.Calls.{Move, Reply, Answer, Compacted, CompactedWithin, RoomMade}
use Rattle.offset_script.specs.Machine as machine

-- moves are noted in their order
abbrev pub Notes : List named.Move → named.Move → List named.Move → Type 0
Notes xs x ys = ys ≡ xs ++ x ∷ []

-- what a compaction comes to, which is done or refused
abbrev pub done : Bool → Slid
done d = if d then came.Compacted else came.Refused

-- what one within a budget comes to, which came so far or is refused
abbrev pub so_far : Option Progress → Slid
so_far None = came.Refused
so_far (Some p) = came.CompactedWithin p.next

-- the reply to a call that came to this, with these moves
abbrev pub slid_reply : Slid → List Move → Reply
slid_reply came.Refused ms = Answer machine.Refused
slid_reply came.Compacted ms = Compacted ms
slid_reply (came.CompactedWithin p) ms = CompactedWithin p ms
slid_reply (came.RoomMade c) ms = RoomMade c ms

-- the call comes to this, with these moves in their order
abbrev pub IsSlid : Call → View → Slid → View → List named.Move → Type 0
IsSlid call.Compact v o w xs = Compacts v w × (o ≡ came.Compacted) × (xs ≡ named.moves 0 0 v.blocks)
IsSlid (call.CompactBy n) v o w xs = (d : Bool) × CompactsBy n v w d × (o ≡ done d)
    × (xs ≡ (if d then moves_by n 0 0 v.blocks else []))
IsSlid (call.CompactWithin n from u k) v o w xs = (p : Option Progress)
    × CompactsWithin Notes n from u k v [] p w xs × (o ≡ so_far p)
IsSlid (call.MakeRoom n) v o w xs = (c : Option RoomCost) × IsLeastCost (value (up n)) v.blocks c
    × MakesRoom Notes (value (up n)) v [] c w xs × (o ≡ came.RoomMade c)
IsSlid (call.MakeRoomBy n align m) v o w xs = (c : Option RoomCost)
    × IsLeastCostBy m (value (up (units_needed n align))) (names_short (blocks_needed align) v) v.blocks c
    × MakesRoomBy Notes m (value (up (units_needed n align))) (names_short (blocks_needed align) v) v [] c w xs
    × (o ≡ came.RoomMade c)
IsSlid other v o w xs = ⊥

-- a move of the range that has this handle after it
abbrev pub named_move : Handle × Moved → named.Move
named_move s = record { name = s.0.name; from = s.1.from; to = s.1.to; size = s.1.size }

-- the same with the number of its name
abbrev pub numbered_move : (ℕ → ℕ) → Handle × Moved → Move
numbered_move number s = record { number = number s.0.name; from = s.1.from; to = s.1.to; size = s.1.size }
