-- A compaction by whole steps within a budget on the plain machine: how far it comes.
use Rattle.std.specs.Prelude.{ℕ, ◌+◌, Bool, ◌&&◌, ◌||◌, List, [], ◌∷◌, length, Option, Some, None, nat_eq, nat_le, if◌then◌else◌}
use Rattle.offset_script.specs.Machine.{Block, total}
use Rattle.offset_script.specs.Totals.{live}
use Rattle.offset_calls.specs.Room.{Split, from_first}

-- whether the live ones of blocks have at most u units and are at most r; one alone may have more
abbrev pub is_within : ℕ → ℕ → List Block → Bool
is_within u r bs = nat_eq (length (live bs)) 1 || (nat_le (total (live bs)) u && nat_le (length (live bs)) r)

-- the blocks from the start of a list on, for as long as they pass a test
abbrev pub longest_that : (List Block → Bool) → List Block → Split
longest_that test [] = record { front = []; run = []; back = [] }
longest_that test (b ∷ bs) =
    if test (b ∷ []) then from_first b (longest_that (λ run. test (b ∷ run)) bs)
    else record { front = []; run = []; back = b ∷ bs }

-- where the first of blocks begins that begin at o, if there is one
abbrev pub start_of : ℕ → List Block → Option ℕ
start_of o [] = None
start_of o (b ∷ bs) = Some o

-- where the next call goes on after one that slid a run, if any block follows it
abbrev pub next_of : Split → Option ℕ
next_of p = start_of (total p.front + total p.run) p.back
