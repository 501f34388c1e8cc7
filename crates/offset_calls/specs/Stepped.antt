-- Sliding by whole steps on the plain machine: what each free block keeps, which run slides, and what it leaves.
use Rattle.std.specs.Prelude.{ℕ, ◌+◌, ◌-◌, ◌%◌, ◌&&◌, List, [], ◌∷◌, ◌++◌, length, Option, Some, None, option_map, nat_eq, nat_le, if◌then◌else◌}
use Rattle.offset_script.specs.Machine.{Free, Block, State, block, is_free, free_part, stamp_of_call}
use Rattle.offset_calls.specs.Room.{Split, from_first, after_first}

-- what a free block of m units keeps, which has these blocks after it: what steps of n leave of it, and nothing at the end
abbrev pub kept : ℕ → ℕ → List Block → ℕ
kept n m [] = 0
kept n m (b ∷ bs) = m % n

-- the live ones of blocks, and between them what the free ones keep, with stamps that rise from t on
abbrev pub stepped : ℕ → ℕ → List Block → List Block
stepped n t [] = []
stepped n t (b ∷ bs) = (if is_free b.tag then free_part (kept n b.size bs) t else b ∷ []) ++ stepped n (t + 1) bs

-- the units that the free ones give up
abbrev pub given_up : ℕ → List Block → ℕ
given_up n [] = 0
given_up n (b ∷ bs) = (if is_free b.tag then b.size - kept n b.size bs else 0) + given_up n bs

-- how many of the free blocks keep nothing
abbrev pub used_up : ℕ → List Block → ℕ
used_up n [] = 0
used_up n (b ∷ bs) = (if is_free b.tag && nat_eq (kept n b.size bs) 0 then 1 else 0) + used_up n bs

-- a run of blocks slid by steps of n, and what they give up as one free block after them, the newest
abbrev pub slid_by : ℕ → ℕ → List Block → List Block
slid_by n t run = stepped n t run ++ block (given_up n run) (Free (t + length run)) ∷ []

-- the state after a run has slid by steps of n units. It counts as one call more than the run has blocks, since each free
-- block that remains gets a new stamp
abbrev pub slid_run : ℕ → State → Split → State
slid_run n s p = record s {
  calls = s.calls + length p.run + 1;
  blocks = p.front ++ (slid_by n (stamp_of_call s) p.run ++ p.back);
}

-- the run from the first free block on that has at least n units, ends at `from` or behind it, and has blocks after it, of which
-- `reach` says how many belong to the run; o is where the list begins
abbrev pub first_run : (List Block → Split) → ℕ → ℕ → ℕ → List Block → Option Split
first_run reach n from o [] = None
first_run reach n from o (b ∷ []) = None
first_run reach n from o (b ∷ c ∷ bs) =
    if is_free b.tag && (nat_le n b.size && nat_le from (o + b.size)) then Some (from_first b (reach (c ∷ bs)))
    else option_map (after_first b) (first_run reach n from (o + b.size) (c ∷ bs))

-- all blocks belong to it
abbrev pub to_the_end : List Block → Split
to_the_end bs = record { front = []; run = bs; back = [] }
