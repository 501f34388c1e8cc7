-- Calls on a guarded allocator: the tickets of its grants, and what a call that passes any ticket means.
use Rattle.std.specs.Prelude.{◌≡◌, ℕ, zero, suc, ◌+◌, Bool, true, false, ◌&&◌, ◌⊎◌, List, [], ◌∷◌, ◌++◌, length, map, Option, Some, None, is_some, nat_eq, slice_get, slice_set, option_map, option_and_then}
use Rattle.std.specs.Prelude.{if◌then◌else◌}
use Rattle.std.specs.List.{Contains}
use Rattle.std.specs.Option.{option_map_or, option_or}
use Rattle.offset_allocator.specs.View.{Handle, IsWellFormed}
use Rattle.offset_guarded.specs.Guard.{Guard, Ticket, covering, handle_in, nodes, range_of}
use Rattle.offset_guarded.specs.Step.{IsJoined}
use Rattle.offset_script.specs.declared.scripts.Command.{Command}
use Rattle.offset_script.specs.declared.scripts.Command.TheVariants as command
use Rattle.offset_script.specs.Steps.{kept_name}
use Rattle.offset_script.specs.Machine as machine
use Rattle.offset_calls.specs.declared.calls.Call.{Call}
use Rattle.offset_calls.specs.declared.calls.Call.TheVariants as call
use Rattle.offset_calls.specs.declared.guarded.TicketCall.{TicketCall}
use Rattle.offset_calls.specs.Calls.{Answer, Reply}
use Rattle.offset_calls.specs.Histories.{renumber}
use Rattle.offset_calls.specs.Steps.{Takes}

-- ---- tickets that calls pass

-- the ticket of grant k
abbrev pub ticket_of : List Ticket → ℕ → Option Ticket
ticket_of ts zero = None
ticket_of ts (suc k) = slice_get ts k

-- whether a ticket has the name, the serial and the realm of another, if there is one
abbrev pub is_that : Ticket → Option Ticket → Bool
is_that t None = false
is_that t (Some u) = nat_eq t.name u.name && (nat_eq t.serial u.serial && nat_eq t.realm u.realm)

-- the number of the grant that gave a ticket, or 0 where none of these did
abbrev pub number_of : List Ticket → Ticket → ℕ
number_of ts t = if is_that t (ticket_of ts t.serial) then t.serial else 0

-- a call of the plain machine, which has numbers of grants in place of tickets: the number of the grant that gave the
-- ticket which the call passes
abbrev pub meant : List Ticket → TicketCall → Call
meant ts c = renumber (λ k. option_map_or (number_of ts) c.ticket k) c.call

-- the number in a call, or 0 where it has none
abbrev pub number_in_command : Command → ℕ
number_in_command (command.Free k) = k
number_in_command (command.Size k) = k
number_in_command other = 0

-- the same of any call
abbrev pub number_in : Call → ℕ
number_in (call.Command c) = number_in_command c
number_in (call.Shrink k n) = k
number_in (call.Grow k n) = k
number_in (call.Offset k) = k
number_in (call.Relocate k) = k
number_in (call.RelocateAligned k align) = k
number_in (call.LiveBefore k) = k
number_in (call.LiveAfter k) = k
number_in other = 0

-- the ticket that a call passes, if there is one
abbrev pub passed : List Ticket → TicketCall → Option Ticket
passed ts c = option_or c.ticket (ticket_of ts (number_in c.call))

-- one of the replies is the grant of this ticket, with its number and its offset
abbrev pub IsGrantOf : List Reply → Ticket → Type 0
IsGrantOf rs t = Contains rs (Answer (machine.Grant t.serial t.offset))

-- ---- tickets that are kept

-- the handle of a live ticket
abbrev pub handle_of : Guard → Ticket → Option Handle
handle_of g t = if is_some (range_of t g) then Some (handle_in t) else None

-- the handles of the grants so far, that of grant k at k - 1 while its ticket is live
abbrev pub handles_of : Guard → List Ticket → List (Option Handle)
handles_of g ts = map (handle_of g) ts

-- tickets of a realm, with the serials after n
abbrev pub AreInOrder : ℕ → ℕ → List Ticket → Type 0
AreInOrder realm n [] = Unit {0}
AreInOrder realm n (t ∷ ts) = (t.serial ≡ n + 1) × (t.realm ≡ realm) × AreInOrder realm (n + 1) ts

-- these are the tickets of all grants so far
pub record AreAllTickets (g : Guard) (ts : List Ticket) : Type 0 where
  pub order : AreInOrder g.realm 0 ts
  pub all : length ts ≡ g.given

-- the name of a ticket, if there is one and it is live
abbrev pub live_name : Option Ticket → Guard → Option ℕ
live_name o g = option_and_then (λ (t : Ticket). option_map (λ (h : Handle). h.name) (handle_of g t)) o

-- the grant of this number is live exactly if the ticket is, and then they have one name
abbrev pub IsNumberOf : ℕ → Option Ticket → Guard → List Ticket → Type 0
IsNumberOf k o g ts = kept_name (handles_of g ts) k ≡ live_name o g

-- there is at most one more ticket: that of the grant which the reply reports
abbrev pub IsGrown : List Ticket → List Ticket → Reply → Type 0
IsGrown ts us r = (us ≡ ts) ⊎ ((t : Ticket) × (us ≡ ts ++ t ∷ []) × (r ≡ Answer (machine.Grant t.serial t.offset)))

-- whether a reply says that no grant of a number is live
abbrev pub is_gone : Reply → Bool
is_gone (Answer machine.Gone) = true
is_gone other = false

-- the cells of serials after a call that gives no ticket: those before it, and where it may make nodes one for each of n
abbrev pub serials_kept : Call → Reply → ℕ → List ℕ → List ℕ
serials_kept (call.Command (command.Extend more)) r n cells = covering n cells
serials_kept (call.Shrink k size) r n cells = if is_gone r then cells else covering n cells
serials_kept (call.Grow k size) r n cells = if is_gone r then cells else covering n cells
serials_kept other r n cells = cells

-- the serial of a new ticket is in the cell of its name, and no other cell changes
abbrev pub AreSerials : Call → Guard → List Ticket → Guard → List Ticket → Reply → Type 0
AreSerials c g ts h us r = ((us ≡ ts) × (h.serials ≡ serials_kept c r (nodes h.space) g.serials))
    ⊎ ((t : Ticket) × (us ≡ ts ++ t ∷ []) × (h.serials ≡ slice_set (covering (nodes h.space) g.serials) t.name t.serial))

-- a grant takes its alignment into the step; nothing else changes it
abbrev pub IsJoinedBy : Reply → ℕ → ℕ → ℕ → Type 0
IsJoinedBy (Answer (machine.Grant k o)) align s t = IsJoined s align t
IsJoinedBy other align s t = t ≡ s

-- the number t that a call with this reply leaves as the step, where it was s
abbrev pub IsStepAfter : Call → Reply → ℕ → ℕ → Type 0
IsStepAfter (call.Command command.Reset) r s t = t ≡ 1
IsStepAfter (call.Command (command.Align n align)) r s t = IsJoinedBy r align s t
IsStepAfter (call.AllocateTightAligned n align) r s t = IsJoinedBy r align s t
IsStepAfter (call.RelocateAligned k align) r s t = IsJoinedBy r align s t
IsStepAfter other r s t = t ≡ s

-- the step of a call from one guarded allocator to the next, with this reply: before it the tickets of the grants so
-- far are those in `ts`, and after it those in `us`; the realm stays
pub record TakesTicket (c : Call) (g : Guard) (ts : List Ticket) (h : Guard) (us : List Ticket) (r : Reply) : Type 0 where
  pub takes : Takes c g.space (handles_of g ts) h.space (handles_of h us) r
  pub all_tickets : AreAllTickets h us
  pub grown : IsGrown ts us r
  pub serials : AreSerials c g ts h us r
  pub realm : h.realm ≡ g.realm
  pub step : IsStepAfter c r g.step h.step

-- calls with these replies, one step after the other: they begin at g, where the tickets of the grants so far are those
-- in `ts`, and leave h and the tickets in `us`
abbrev pub AreServed : Guard → List Ticket → List TicketCall → List Reply → Guard → List Ticket → Type 0
AreServed g ts [] [] h us = (h ≡ g) × (us ≡ ts)
AreServed g ts (c ∷ cs) (r ∷ rs) h us = (i : Guard) × (now : List Ticket) × TakesTicket (meant ts c) g ts i now r
    × IsWellFormed i.space × AreServed i now cs rs h us
AreServed g ts cs rs h us = ⊥

-- the answer to a request with this result; the ticket of a grant is kept
abbrev pub IsStored : Option Ticket → List Ticket → List Ticket → machine.Answer → Type 0
IsStored None ts us a = (us ≡ ts) × (a ≡ machine.Refused)
IsStored (Some t) ts us a = (us ≡ ts ++ t ∷ []) × (a ≡ machine.Grant (length us) t.offset)
