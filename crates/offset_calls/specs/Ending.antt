-- What is done at the end of a space, on the plain machine: a second range before a live one, units that
-- are taken off, and the live ranges beside one another.
use Rattle.std.specs.Prelude.{ℕ, zero, suc, ◌+◌, ◌-◌, Bool, false, List, [], ◌∷◌, ◌++◌, Option, Some, None, nat_lt, nat_le, if◌then◌else◌}
use Rattle.std.specs.Option.{option_or}
use Rattle.offset_script.specs.Machine.{Tag, Live, Free, Block, block, total, free_part, units_at_end, without_end, Place, State, Answer, Grant, Refused, Gone, Outcome, returns_only, allocate, allocate_aligned}
use Rattle.offset_calls.specs.declared.calls.LiveRange.{LiveRange}

-- whether an answer is a grant that begins before an offset
abbrev pub begins_before : ℕ → Answer → Bool
begins_before offset (Grant k o) = nat_lt o offset
begins_before offset other = false

-- a second grant for the live block at a place: that of a request for as many units, where it begins before
-- the block; `Gone` where there is no such block
abbrev pub relocate : State → Option Place → Outcome
relocate s None = returns_only s Gone
relocate s (Some p) =
    if begins_before (total p.before) (allocate p.block.size s).answer then allocate p.block.size s
    else returns_only s Refused

-- a second grant from a multiple of align on for the live block at a place: that of a request for as many units, where the
-- units that the alignment needs would begin before the block; `Gone` where there is no such block
abbrev pub relocate_aligned : ℕ → State → Option Place → Outcome
relocate_aligned align s None = returns_only s Gone
relocate_aligned align s (Some p) =
    if begins_before (total p.before) (allocate (p.block.size + align - 1) s).answer then allocate_aligned p.block.size align s
    else returns_only s Refused

-- whether n units can be taken off the end: the last block is free and has as many; 0 units always
abbrev pub can_retract : ℕ → List Block → Bool
can_retract n bs = nat_le n (units_at_end bs)

-- a last free block of n units after others: nothing where n is 0, unless it is the only block
abbrev pub end_block : List Block → ℕ → ℕ → List Block
end_block [] n stamp = block n (Free stamp) ∷ []
end_block (b ∷ bs) n stamp = free_part n stamp

-- a list whose last block, where that is free, gives way to a free one of n units
abbrev pub with_end : ℕ → ℕ → List Block → List Block
with_end n stamp bs = without_end bs ++ end_block (without_end bs) n stamp

-- a list without n units of its last block, which is free
abbrev pub retracted : ℕ → ℕ → List Block → List Block
retracted zero stamp bs = bs
retracted (suc n) stamp bs = with_end (units_at_end bs - suc n) stamp bs

-- the live range of a block that begins at an offset
abbrev pub live_range : ℕ → Tag → Option LiveRange
live_range offset (Live k) = Some (record { number = k; offset = offset })
live_range offset (Free s) = None

-- the first live range of blocks from an offset on
abbrev pub first_live : ℕ → List Block → Option LiveRange
first_live offset [] = None
first_live offset (b ∷ bs) = option_or (live_range offset b.tag) (first_live (offset + b.size) bs)

-- the last live range of blocks from an offset on
abbrev pub last_live : ℕ → List Block → Option LiveRange
last_live offset [] = None
last_live offset (b ∷ bs) = option_or (last_live (offset + b.size) bs) (live_range offset b.tag)

-- the live range before the block at a place
abbrev pub live_before : Place → Option LiveRange
live_before p = last_live 0 p.before

-- the live range after the block at a place
abbrev pub live_after : Place → Option LiveRange
live_after p = first_live (total p.before + p.block.size) p.after
