-- Which calls of the plain machine are refused, and why.
use Rattle.std.specs.Prelude.{◌≡◌, ℕ, ◌+◌, Bool, true, false, List, [], ◌∷◌, ◌++◌, length, map, sum, nat_le, nat_lt, if◌then◌else◌}
use Rattle.offset_allocator.specs.Classes.{value, up}
use Rattle.offset_allocator.specs.Requests.{CanGrant, blocks_needed, size_needed, units_needed}
use Rattle.offset_allocator.specs.View.{View, max_size}
use Rattle.offset_allocator.specs.View as named
use Rattle.offset_allocator.specs.declared.reports.Refusal.{Refusal}
use Rattle.offset_allocator.specs.declared.reports.Refusal.TheVariants.{Nodes, TooLarge, Space, Fragmented}
use Rattle.offset_script.specs.declared.scripts.Command.{Command}
use Rattle.offset_script.specs.declared.scripts.Command.TheVariants as command
use Rattle.offset_script.specs.Machine.{Answer, State, answers, free_sizes, start, step, total}
use Rattle.offset_script.specs.Machine as machine
use Rattle.offset_pictures.specs.declared.refusing.Asked.TheVariants as asked
use Rattle.offset_pictures.specs.declared.refusing.Reason.{Reason}
use Rattle.offset_pictures.specs.declared.refusing.Reason.TheVariants as reason
use Rattle.offset_pictures.specs.declared.refusing.Refused.{Refused}

-- whether an answer is `none`
abbrev pub is_refusal : Answer → Bool
is_refusal machine.Refused = true
is_refusal other = false

-- the calls with the answer `none`, where the first of these answers is that of call i
abbrev pub refused_calls_from : ℕ → List Answer → List ℕ
refused_calls_from i [] = []
refused_calls_from i (a ∷ more) = if is_refusal a then i ∷ refused_calls_from (i + 1) more else refused_calls_from (i + 1) more

abbrev pub refused_calls : ℕ → ℕ → List Command → List ℕ
refused_calls size limit cs = refused_calls_from 0 (answers cs (start size limit))

-- ---- why

-- the numbers of a space that tell why it refuses: how many blocks there are, and fewer than how many there may be, and all
-- units, and the free ones
pub record Numbers : Type 0 where
  pub blocks : ℕ
  pub limit : ℕ
  pub units : ℕ
  pub free : ℕ

abbrev pub numbers_of : State → Numbers
numbers_of s = record { blocks = length s.blocks; limit = s.limit; units = total s.blocks; free = sum (free_sizes s.blocks) }

abbrev pub numbers_of_view : View → Numbers
numbers_of_view v = record { blocks = length v.blocks; limit = v.max_allocs; units = v.size; free = sum (named.free_sizes v.blocks) }

-- why a request is refused that may add `spare` blocks and needs a block for so many units: the first of these that holds
abbrev pub shortage : (spare needed : ℕ) → Numbers → Refusal
shortage spare needed m =
    if nat_le m.limit (m.blocks + spare) then Nodes
    else if nat_lt m.units (value (up needed)) then TooLarge
    else if nat_lt m.free (size_needed needed) then Space
    else Fragmented

-- why more units are refused: a space may not have so many, or they need a block, and none may be added
abbrev pub why_extend : ℕ → Numbers → Reason
why_extend more m = if nat_le (m.units + more) max_size then reason.Request Nodes else reason.TooManyUnits

-- call i, where it is refused; other commands never are
abbrev pub refused_call : ℕ → Command → Numbers → List Refused
refused_call i (command.Alloc n) m = record { call = i; asked = asked.Alloc n; why = reason.Request (shortage 1 n m) } ∷ []
refused_call i (command.Align n align) m = record { call = i; asked = asked.Align n align; why = reason.Request (shortage (blocks_needed align) (units_needed n align) m) } ∷ []
refused_call i (command.Extend more) m = record { call = i; asked = asked.Extend more; why = why_extend more m } ∷ []
refused_call i other m = []

-- a request that was refused cannot be granted
abbrev pub IsRefusedBy : View → Command → Type 0
IsRefusedBy v (command.Alloc n) = CanGrant 1 n v → ⊥
IsRefusedBy v (command.Align n align) = CanGrant (blocks_needed align) (units_needed n align) v → ⊥
IsRefusedBy v other = Unit {0}

-- the refused ones among commands, the first of which is call i, each with its reason in the space that it found
abbrev pub refusals_with_reasons_from : ℕ → List Command → State → List Refused
refusals_with_reasons_from i [] s = []
refusals_with_reasons_from i (c ∷ cs) s = (if is_refusal (step c s).answer then refused_call i c (numbers_of s) else []) ++ refusals_with_reasons_from (i + 1) cs (step c s).state

abbrev pub refusals_with_reasons : ℕ → ℕ → List Command → List Refused
refusals_with_reasons size limit cs = refusals_with_reasons_from 0 cs (start size limit)

-- in any script, these are the calls with the answer `none`
abbrev pub RefusalsHaveReasons : Type 0
RefusalsHaveReasons = (size limit : ℕ) (cs : List Command) → map (λ r. r.call) (refusals_with_reasons size limit cs) ≡ refused_calls size limit cs
