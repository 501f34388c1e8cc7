-- Requests for the units from an offset on, on the plain machine.
use Rattle.std.specs.Prelude.{ℕ, ◌+◌, ◌-◌, max, min, Bool, not, ◌&&◌, List, [], ◌∷◌, Option, Some, None, nat_le, if◌then◌else◌}
use Rattle.offset_script.specs.Machine.{Block, is_free, total, Place, here, prepend, State, is_short_of, Refused, Outcome, returns_only, grant}

-- the later place: the one found among the blocks bs after the first block b, or that of b, if it may be taken
abbrev pub later : Bool → Block → List Block → Option Place → Option Place
later may b bs None = if may then Some (here b bs) else None
later may b bs (Some p) = Some (prepend b p)

-- of blocks that begin at `begin`, where the last free one is that begins at an offset or before
abbrev pub last_place : ℕ → ℕ → List Block → Option Place
last_place offset begin [] = None
last_place offset begin (b ∷ bs) =
    later (is_free b.tag && nat_le begin offset) b bs (last_place offset (begin + b.size) bs)

-- how many blocks are added where n units from an offset on are taken of the block at a place: one for the units before
-- them, and one for those after them, where there are any
abbrev pub blocks_added : ℕ → ℕ → Place → ℕ
blocks_added offset n p = min 1 (offset - total p.before) + min 1 (total p.before + p.block.size - (offset + n))

-- the block holds these units, and as many further blocks may exist as are added, and one at least
abbrev pub can_take : ℕ → ℕ → State → Place → Bool
can_take offset n s p = nat_le (offset + n) (total p.before + p.block.size)
    && not (is_short_of (max 1 (blocks_added offset n p)) s)

-- a request for n units from an offset on, of the block at a place: the units before them stay free, and those after them
abbrev pub request_at : ℕ → ℕ → State → Option Place → Outcome
request_at offset n s None = returns_only s Refused
request_at offset n s (Some p) =
    if can_take offset n s p then grant s n (offset - total p.before) p else returns_only s Refused

-- a request for n units from an offset on: it takes them of the last free block that begins there or before
abbrev pub allocate_at : ℕ → ℕ → State → Outcome
allocate_at offset n s = request_at offset n s (last_place offset 0 s.blocks)
