-- The node limit in calls: for how many more blocks a call wants room, and runs in which no reply is for want of nodes.
use Rattle.std.specs.Prelude.{◌≡◌, ℕ, ◌+◌, Bool, true, false, List, [], ◌∷◌, Option, Some, nat_eq}
use Rattle.offset_allocator.specs.declared.reports.Refusal as allocator
use Rattle.offset_allocator.specs.declared.reports.Refusal.TheVariants.{Nodes}
use Rattle.offset_allocator.specs.Requests.{AdmitsBlocks, blocks_needed}
use Rattle.offset_allocator.specs.View.{View, Handle, IsWellFormed}
use Rattle.offset_guarded.specs.Guard.{Guard, Ticket}
use Rattle.offset_script.specs.Machine as machine
use Rattle.offset_script.specs.Steps.{Stays}
use Rattle.offset_script.specs.declared.scripts.Command.{Command}
use Rattle.offset_script.specs.declared.scripts.Command.TheVariants as command
use Rattle.offset_calls.specs.Calls.{Reply, Answer, Refusal, RoomMade, RoomCost}
use Rattle.offset_calls.specs.Steps.{Takes}
use Rattle.offset_calls.specs.Tickets.{TakesTicket, meant}
use Rattle.offset_calls.specs.declared.calls.Call.{Call}
use Rattle.offset_calls.specs.declared.calls.Call.TheVariants as call
use Rattle.offset_calls.specs.declared.guarded.TicketCall.{TicketCall}

-- for how many more blocks a command wants room
abbrev pub blocks_for_command : Command → ℕ
blocks_for_command (command.Alloc n) = 1
blocks_for_command command.Report = 1
blocks_for_command (command.Align n align) = blocks_needed align
blocks_for_command (command.Extend more) = 1
blocks_for_command other = 0

-- for how many more blocks a call wants room: with as many its reply is the same under every node limit. Where room is made by
-- steps, they are those of the request, and one for what a run gives up
abbrev pub blocks_wanted : Call → ℕ
blocks_wanted (call.Command c) = blocks_for_command c
blocks_wanted (call.Shrink k n) = 1
blocks_wanted (call.CompactBy n) = 1
blocks_wanted (call.CompactWithin n from u r) = 1
blocks_wanted (call.Refusal n) = 1
blocks_wanted (call.RefusalAligned n align) = blocks_needed align
blocks_wanted (call.AllocateTight n) = 1
blocks_wanted (call.AllocateTightAligned n align) = blocks_needed align
blocks_wanted (call.AllocateAt offset n) = 2
blocks_wanted (call.RefusalTight n) = 1
blocks_wanted (call.RefusalTightAligned n align) = blocks_needed align
blocks_wanted (call.WouldBegin n align) = blocks_needed align
blocks_wanted (call.MakeRoomBy n align m) = blocks_needed align + 1
blocks_wanted (call.RoomCostBy n align m) = blocks_needed align + 1
blocks_wanted (call.Relocate k) = 1
blocks_wanted (call.RelocateAligned k align) = blocks_needed align
blocks_wanted other = 0

-- whether an answer may be for want of nodes: a refusal, or a report that nothing is free
abbrev pub answers_nothing : machine.Answer → Bool
answers_nothing machine.Refused = true
answers_nothing (machine.Report free largest) = nat_eq free 0
answers_nothing other = false

-- whether a reason is that of nodes
abbrev pub is_for_nodes : Option allocator.Refusal → Bool
is_for_nodes (Some Nodes) = true
is_for_nodes other = false

-- whether a reply may be for want of nodes: such an answer, that reason, or a cost of room, since by steps the run that
-- slides depends on nodes too
abbrev pub may_want_nodes : Reply → Bool
may_want_nodes (Answer a) = answers_nothing a
may_want_nodes (Refusal why) = is_for_nodes why
may_want_nodes (RoomMade c ms) = true
may_want_nodes (RoomCost c) = true
may_want_nodes other = false

-- a reply is not for want of nodes: where it may be, there is room for the blocks that the call wants
abbrev pub HasNodes : Call → View → Reply → Type 0
HasNodes c v r = may_want_nodes r ≡ true → AdmitsBlocks (blocks_wanted c) v

-- calls with these replies, as in `Runs`, none of which is for want of nodes
abbrev pub RunsWithNodes : View → List (Option Handle) → List Call → List Reply → View → List (Option Handle) → Type 0
RunsWithNodes v handles [] [] w kept = Stays v handles w kept
RunsWithNodes v handles (c ∷ cs) (r ∷ rs) w kept = (u : View) × (now : List (Option Handle)) × Takes c v handles u now r
    × HasNodes c v r × IsWellFormed u × RunsWithNodes u now cs rs w kept
RunsWithNodes v handles cs rs w kept = ⊥

-- calls with these replies, as in `AreServed`, none of which is for want of nodes
abbrev pub AreServedWithNodes : Guard → List Ticket → List TicketCall → List Reply → Guard → List Ticket → Type 0
AreServedWithNodes g ts [] [] h us = (h ≡ g) × (us ≡ ts)
AreServedWithNodes g ts (c ∷ cs) (r ∷ rs) h us = (i : Guard) × (now : List Ticket) × TakesTicket (meant ts c) g ts i now r
    × HasNodes (meant ts c) g.space r × IsWellFormed i.space × AreServedWithNodes i now cs rs h us
AreServedWithNodes g ts cs rs h us = ⊥

-- the same guarded allocator under this node limit, however many accesses are counted
abbrev pub SameGuardUnder : ℕ → Guard → Guard → Type 0
SameGuardUnder limit g h = h ≡ record g { space = record g.space { max_allocs = limit; accesses = h.space.accesses } }
