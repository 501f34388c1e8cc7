-- Laws over whole histories of calls.
use Rattle.std.specs.Prelude.{ℕ, ◌+◌, ◌-◌, Bool, true, false, List, [], ◌∷◌, Option, map, nat_le, option_map, if◌then◌else◌}
use Rattle.offset_allocator.specs.View.{View, Handle, IsWellFormed}
use Rattle.offset_script.specs.Steps.{Stays}
use Rattle.offset_script.specs.Histories.{number_without, raise_number}
use Rattle.offset_script.specs.Histories as script
use Rattle.offset_script.specs.Machine.{State}
use Rattle.offset_calls.specs.declared.calls.Call.{Call}
use Rattle.offset_calls.specs.declared.calls.Call.TheVariants as call
use Rattle.offset_calls.specs.declared.calls.LiveRange.{LiveRange}
use Rattle.offset_calls.specs.Calls.{Move, Reply, Answer, Compacted, CompactedWithin, RoomMade, Found, Outcome, replies, step}
use Rattle.offset_calls.specs.Steps.{Takes}
use Rattle.offset_script.specs.declared.scripts.Command.TheVariants as command

-- a call with the function r applied to its grant number, if it has one
abbrev pub renumber : (ℕ → ℕ) → Call → Call
renumber r (call.Command c) = call.Command (script.renumber r c)
renumber r (call.Shrink k n) = call.Shrink (r k) n
renumber r (call.Grow k n) = call.Grow (r k) n
renumber r (call.Offset k) = call.Offset (r k)
renumber r (call.Relocate k) = call.Relocate (r k)
renumber r (call.RelocateAligned k align) = call.RelocateAligned (r k) align
renumber r (call.LiveBefore k) = call.LiveBefore (r k)
renumber r (call.LiveAfter k) = call.LiveAfter (r k)
renumber r other = other

-- a grant number as it is with j further grants after the first g
abbrev pub number_with : ℕ → ℕ → ℕ → ℕ
number_with g j k = if nat_le k g then k else k + j

-- a move with the number that its grant has with j further grants after the first g
abbrev pub raise_move : ℕ → ℕ → Move → Move
raise_move g j m = record { number = number_with g j m.number; from = m.from; to = m.to; size = m.size }

-- a live range with the number that its grant has with j further grants after the first g
abbrev pub raise_range : ℕ → ℕ → LiveRange → LiveRange
raise_range g j r = record { number = number_with g j r.number; offset = r.offset }

-- a reply to a call after j further grants after the first g: a new grant has a number larger by j
abbrev pub raise : ℕ → ℕ → Reply → Reply
raise g j (Answer a) = Answer (raise_number j a)
raise g j (Compacted ms) = Compacted (map (raise_move g j) ms)
raise g j (CompactedWithin p ms) = CompactedWithin p (map (raise_move g j) ms)
raise g j (RoomMade c ms) = RoomMade c (map (raise_move g j) ms)
raise g j (Found r) = Found (option_map (raise_range g j) r)
raise g j other = other

-- the replies from s on, numbered as those from t on, where t has made more grants
abbrev pub replies_renumbered : State → State → List Call → List Reply
replies_renumbered s t cs = map (raise s.grants (t.grants - s.grants))
    (replies (map (renumber (number_without s.grants (t.grants - s.grants))) cs) s)

-- whether a call is a question: it changes nothing
abbrev pub IsQuestion : Call → Type 0
IsQuestion (call.Command c) = script.IsQuestion c
IsQuestion (call.Offset k) = Unit {0}
IsQuestion (call.Refusal n) = Unit {0}
IsQuestion (call.RefusalAligned n align) = Unit {0}
IsQuestion (call.RefusalTight n) = Unit {0}
IsQuestion (call.RefusalTightAligned n align) = Unit {0}
IsQuestion (call.WouldBegin n align) = Unit {0}
IsQuestion (call.RoomCost n) = Unit {0}
IsQuestion (call.RoomCostBy n align m) = Unit {0}
IsQuestion call.FirstLive = Unit {0}
IsQuestion call.LastLive = Unit {0}
IsQuestion (call.LiveBefore k) = Unit {0}
IsQuestion (call.LiveAfter k) = Unit {0}
IsQuestion other = ⊥

-- a reply without the offset of a new grant
abbrev pub without_offset : Reply → Reply
without_offset (Answer a) = Answer (script.without_offset a)
without_offset other = other

-- what `Retract` of n units does after `Extend` by as many
abbrev pub retract_again : ℕ → State → Outcome
retract_again n s = step (call.Retract n) (step (call.Command (command.Extend n)) s).state

-- whether a call goes by where a grant would begin: `WouldBegin`, `Relocate` or `RelocateAligned`
abbrev pub goes_by_begin : Call → Bool
goes_by_begin (call.WouldBegin n align) = true
goes_by_begin (call.Relocate k) = true
goes_by_begin (call.RelocateAligned k align) = true
goes_by_begin other = false

-- calls with these replies, one step after the other: they begin at the view v, where the handles of the grants so far
-- are those in `handles`, and leave the view w and the handles in `kept`
abbrev pub Runs : View → List (Option Handle) → List Call → List Reply → View → List (Option Handle) → Type 0
Runs v handles [] [] w kept = Stays v handles w kept
Runs v handles (c ∷ cs) (r ∷ rs) w kept = (u : View) × (now : List (Option Handle)) × Takes c v handles u now r
    × IsWellFormed u × Runs u now cs rs w kept
Runs v handles cs rs w kept = ⊥
