-- Requests for any free block that is large enough, on the plain machine.
use Rattle.std.specs.Prelude.{ℕ, ◌+◌, ◌-◌, max, Bool, ◌&&◌, List, [], ◌∷◌, sum, Option, Some, None, is_some, nat_lt, nat_le, if◌then◌else◌}
use Rattle.std.specs.Option.{option_or}
use Rattle.offset_allocator.specs.declared.reports.Refusal.{Refusal}
use Rattle.offset_allocator.specs.declared.reports.Refusal.TheVariants.{Nodes, TooLarge, Space, Fragmented}
use Rattle.offset_allocator.specs.View.{padding_to}
use Rattle.offset_script.specs.Machine.{Block, is_free, total, free_sizes, Place, here, prepend, is_taken_before, chosen_place, State, is_short_of, Refused, Outcome, returns_only, grant_or_refuse}

-- whether a block that begins at an offset is free, and holds n units from a multiple of align on
abbrev pub holds : ℕ → ℕ → ℕ → Block → Bool
holds n align offset b = is_free b.tag && nat_le (padding_to align offset + n) b.size

-- the better place: that of the first block b, if it may be taken, or the one chosen among the blocks bs after it
abbrev pub better : Bool → Block → List Block → Option Place → Option Place
better may b bs None = if may then Some (here b bs) else None
better may b bs (Some p) = if may && is_taken_before b p.block then Some (here b bs) else Some (prepend b p)

-- of blocks from an offset on, where the newest of the smallest class is that holds n units from a multiple of align on
abbrev pub holding_place : ℕ → ℕ → ℕ → List Block → Option Place
holding_place n align offset [] = None
holding_place n align offset (b ∷ bs) =
    better (holds n align offset b) b bs (holding_place n align (offset + b.size) bs)

-- a request for n units from a multiple of align on, which may add `more` blocks: it takes the block chosen for
-- `needed` units, and where there is none, the block that holds it
abbrev pub request_tight : State → ℕ → ℕ → ℕ → ℕ → Outcome
request_tight s more needed n align =
    if is_short_of more s then returns_only s Refused
    else grant_or_refuse s n (padding_to align)
    (option_or (chosen_place needed s.blocks) (holding_place n align 0 s.blocks))

-- a request for n units from a multiple of align on, which takes any free block that holds them
abbrev pub allocate_tight : ℕ → ℕ → State → Outcome
allocate_tight n align s =
    if nat_le align 1 then request_tight s 1 n n align else request_tight s 2 (n + align - 1) n align

-- why no block holds n units, in a space of this size with this many units free
abbrev pub lack : ℕ → ℕ → ℕ → Refusal
lack n size free = if nat_lt size n then TooLarge else if nat_lt free (max 1 n) then Space else Fragmented

-- why such a request is refused that may add `more` blocks
abbrev pub reason_held : ℕ → ℕ → ℕ → State → Option Refusal
reason_held more n align s =
    if is_short_of more s then Some Nodes
    else if is_some (holding_place n align 0 s.blocks) then None
    else Some (lack n (total s.blocks) (sum (free_sizes s.blocks)))

-- why such a request is refused
abbrev pub reason_tight : ℕ → ℕ → State → Option Refusal
reason_tight n align s = reason_held (if nat_le align 1 then 1 else 2) n align s
