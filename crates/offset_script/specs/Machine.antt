-- The plain stamped machine: the space as a list of blocks, commands in, answers out. The size classes, the rows of a
-- full report, the largest size of a space (`max_size`) and the padding of an aligned grant (`padding_to`) are the
-- allocator's. `Block`, `Place`, `place_of`, `free_sizes`, `free_part`, `without_start` and `without_end` are of these lists,
-- not those of the same names in the allocator's `View.antt`, and `total` is its `units`.
use Rattle.std.specs.Prelude.{ℕ, zero, suc, ◌+◌, ◌-◌, ◌*◌, Bool, true, false, ◌&&◌, ◌||◌, not, List, [], ◌∷◌, ◌++◌, length, map, sum, Option, Some, None, option_map, nat_eq, nat_lt, nat_le}
use Rattle.std.specs.Prelude.{if◌then◌else◌}
use Rattle.offset_allocator.specs.Classes.{up, down}
use Rattle.offset_allocator.specs.View.{max_size, padding_to}
use Rattle.offset_allocator.specs.Reporting.FreeSizes.{largest, Row, rows_below}
use Rattle.offset_script.specs.declared.scripts.Command.{Command}
use Rattle.offset_script.specs.declared.scripts.Command.TheVariants as command
use Rattle.offset_script.specs.declared.answers.FullRow.{FullRow}
use Rattle.offset_script.specs.declared.answers.Answer as program
use Rattle.offset_script.specs.declared.answers.Answer.TheVariants as program_answer

-- ---- blocks

-- the tag of a block: live, with the number of its grant, or free, with a stamp, where the larger stamp is the newer
pub data Tag : Type 0 where
  Live : (number : ℕ) → Tag
  Free : (stamp : ℕ) → Tag

-- a range of `size` units, live or free
pub record Block : Type 0 where
  pub size : ℕ
  pub tag : Tag

-- a block of n units with this tag
abbrev pub block : ℕ → Tag → Block
block n tag = record { size = n; tag = tag }

-- whether a tag is that of a free block
abbrev pub is_free : Tag → Bool
is_free (Live k) = false
is_free (Free s) = true

-- whether a tag is that of the live block of grant k
abbrev pub has_number : ℕ → Tag → Bool
has_number k (Live j) = nat_eq k j
has_number k (Free s) = false

-- the stamp of a free block
abbrev pub stamp : Tag → ℕ
stamp (Live k) = 0
stamp (Free s) = s

-- the units of a list of blocks; the offset of a block is the total of those before it
abbrev pub total : List Block → ℕ
total [] = 0
total (b ∷ bs) = b.size + total bs

-- the sizes of the free blocks
abbrev pub free_sizes : List Block → List ℕ
free_sizes [] = []
free_sizes (b ∷ bs) = if is_free b.tag then b.size ∷ free_sizes bs else free_sizes bs

-- a list of blocks, split at a block
pub record Place : Type 0 where
  pub before : List Block
  pub block : Block
  pub after : List Block

-- the place of the first block b of a list, before bs
abbrev pub here : Block → List Block → Place
here b bs = record { before = []; block = b; after = bs }

-- a place in a list, in the same list with b before it
abbrev pub prepend : Block → Place → Place
prepend b p = record { before = b ∷ p.before; block = p.block; after = p.after }

-- whether a request for n units may take the block
abbrev pub fits : ℕ → Block → Bool
fits n b = is_free b.tag && nat_le (up n) (down b.size)

-- whether of two free blocks the first is chosen over the second: its class is smaller, or the same and its stamp newer
abbrev pub is_taken_before : Block → Block → Bool
is_taken_before a b =
    nat_lt (down a.size) (down b.size) || (nat_eq (down a.size) (down b.size) && nat_lt (stamp b.tag) (stamp a.tag))

-- the better place for a request of n units: that of the first block b, or the one chosen among the blocks bs after it
abbrev pub choose : ℕ → Block → List Block → Option Place → Option Place
choose n b bs None = if fits n b then Some (here b bs) else None
choose n b bs (Some p) = if fits n b && is_taken_before b p.block then Some (here b bs) else Some (prepend b p)

-- where a request for n takes its units: the newest block of the smallest class that fits
abbrev pub chosen_place : ℕ → List Block → Option Place
chosen_place n [] = None
chosen_place n (b ∷ bs) = choose n b bs (chosen_place n bs)

-- the place of the live block of grant k
abbrev pub place_of : ℕ → List Block → Option Place
place_of k [] = None
place_of k (b ∷ bs) = if has_number k b.tag then Some (here b bs) else option_map (prepend b) (place_of k bs)

-- a free block of n units, or nothing where n is 0
abbrev pub free_part : ℕ → ℕ → List Block
free_part zero s = []
free_part (suc n) s = block (suc n) (Free s) ∷ []

-- the units of a free block at the start of a list, or 0
abbrev pub units_at_start : List Block → ℕ
units_at_start [] = 0
units_at_start (b ∷ bs) = if is_free b.tag then b.size else 0

-- a list without its first block, where that is free
abbrev pub without_start : List Block → List Block
without_start [] = []
without_start (b ∷ bs) = if is_free b.tag then bs else b ∷ bs

-- the units of a free block at the end of a list, or 0
abbrev pub units_at_end : List Block → ℕ
units_at_end [] = 0
units_at_end (b ∷ []) = if is_free b.tag then b.size else 0
units_at_end (b ∷ c ∷ bs) = units_at_end (c ∷ bs)

-- a list without its last block, where that is free
abbrev pub without_end : List Block → List Block
without_end [] = []
without_end (b ∷ []) = if is_free b.tag then [] else b ∷ []
without_end (b ∷ c ∷ bs) = b ∷ without_end (c ∷ bs)

-- whether the last block of a list is live
abbrev pub ends_live : List Block → Bool
ends_live [] = false
ends_live (b ∷ []) = not (is_free b.tag)
ends_live (b ∷ c ∷ bs) = ends_live (c ∷ bs)

-- n units between two lists become free, with stamp s, and coalesce with a free block right before and one right after
abbrev pub coalesce : List Block → ℕ → ℕ → List Block → List Block
coalesce before n s after =
    without_end before ++ block (units_at_end before + n + units_at_start after) (Free s) ∷ without_start after

-- ---- states and calls

-- a space between two calls
pub record State : Type 0 where
  -- there are always fewer blocks than this
  pub limit : ℕ
  -- in space order
  pub blocks : List Block
  -- the calls so far, and one more for each block of a run that slid by steps: it only numbers stamps
  pub calls : ℕ
  -- the grants so far
  pub grants : ℕ

-- the answer to a command
pub data Answer : Type 0 where
  Grant : (number offset : ℕ) → Answer
  Refused : Answer
  Freed : Answer
  Gone : Answer
  Size : ℕ → Answer
  Report : (free largest : ℕ) → Answer
  Full : List Row → Answer
  Reset : Answer
  Extended : Answer

-- the full report of a space with free blocks of these sizes
abbrev pub full_report : List ℕ → Answer
full_report sizes = Full (rows_below 256 sizes)

-- the state that a call leaves, and its answer
pub record Outcome : Type 0 where
  pub state : State
  pub answer : Answer

-- a fresh space: one free block of size units
abbrev pub start : ℕ → ℕ → State
start size limit = record { limit = limit; blocks = block size (Free 0) ∷ []; calls = 0; grants = 0 }

-- the stamp that the next call gives to the padding before an aligned grant: below that of the remainder, above all earlier
-- ones
abbrev pub stamp_of_padding : State → ℕ
stamp_of_padding s = 2 * (s.calls + 1)

-- the stamp that the next call gives to every other free block that it makes
abbrev pub stamp_of_call : State → ℕ
stamp_of_call s = 2 * (s.calls + 1) + 1

-- a call that leaves the blocks as they are
abbrev pub returns_only : State → Answer → Outcome
returns_only s a = record { state = record s { calls = s.calls + 1 }; answer = a }

-- a call that leaves these blocks
abbrev pub leaves : State → List Block → Answer → Outcome
leaves s bs a = record { state = record s { calls = s.calls + 1; blocks = bs }; answer = a }

-- whether fewer than `more` further blocks may exist
abbrev pub is_short_of : ℕ → State → Bool
is_short_of more s = nat_le s.limit (length s.blocks + more)

-- a grant of n units of the block at a place, after `padding` units of it that stay free; so does the remainder
abbrev pub grant : State → ℕ → ℕ → Place → Outcome
grant s n padding p = record {
  state = record s {
    calls = s.calls + 1;
    grants = s.grants + 1;
    blocks = p.before ++ (free_part padding (stamp_of_padding s)
        ++ (block n (Live (s.grants + 1)) ∷ (free_part (p.block.size - (padding + n)) (stamp_of_call s) ++ p.after)));
  };
  answer = Grant (s.grants + 1) (total p.before + padding);
}

-- a grant at a place, with the padding that its offset needs, or a refusal where there is no place
abbrev pub grant_or_refuse : State → ℕ → (ℕ → ℕ) → Option Place → Outcome
grant_or_refuse s n padding_at None = returns_only s Refused
grant_or_refuse s n padding_at (Some p) = grant s n (padding_at (total p.before)) p

-- a request for n units: it takes the block chosen for `needed` units, and is refused where there is none, or where
-- fewer than `more` further blocks may exist
abbrev pub request : State → ℕ → ℕ → ℕ → (ℕ → ℕ) → Outcome
request s more needed n padding_at =
    if is_short_of more s then returns_only s Refused
    else grant_or_refuse s n padding_at (chosen_place needed s.blocks)

-- a request for n units
abbrev pub allocate : ℕ → State → Outcome
allocate n s = request s 1 n n (λ offset. 0)

-- a request for n units whose offset is a multiple of align
abbrev pub allocate_aligned : ℕ → ℕ → State → Outcome
allocate_aligned n align s =
    if nat_le align 1 then allocate n s
    else if nat_lt max_size (n + align - 1) then returns_only s Refused
    else request s 2 (n + align - 1) n (padding_to align)

-- the live block at a place becomes free; `Gone` where there is none
abbrev pub release : State → Option Place → Outcome
release s None = returns_only s Gone
release s (Some p) = leaves s (coalesce p.before p.block.size (stamp_of_call s) p.after) Freed

-- the size of the live block at a place; `Gone` where there is none
abbrev pub size_at : Option Place → Answer
size_at None = Gone
size_at (Some p) = Size p.block.size

-- the free units and the largest class value of a free block, or 0 and 0 where no further block may exist
abbrev pub report : State → Answer
report s = if is_short_of 1 s then Report 0 0 else Report (sum (free_sizes s.blocks)) (largest (free_sizes s.blocks))

-- the whole space becomes one free block
abbrev pub reset : State → Outcome
reset s = leaves s (block (total s.blocks) (Free (stamp_of_call s)) ∷ []) Reset

-- more units at the end, coalesced with a last block that is free; refused where the sum exceeds the largest size, or
-- the units need a block of their own and none may be added
abbrev pub extend : ℕ → State → Outcome
extend zero s = returns_only s Extended
extend (suc more) s =
    if nat_lt max_size (total s.blocks + suc more) || (ends_live s.blocks && is_short_of 1 s) then returns_only s Refused
    else leaves s (coalesce s.blocks (suc more) (stamp_of_call s) []) Extended

-- what one command leaves and returns
abbrev pub step : Command → State → Outcome
step (command.Alloc n) s = allocate n s
step (command.Free k) s = release s (place_of k s.blocks)
step (command.Size k) s = returns_only s (size_at (place_of k s.blocks))
step command.Report s = returns_only s (report s)
step command.Full s = returns_only s (full_report (free_sizes s.blocks))
step command.Reset s = reset s
step (command.Align n align) s = allocate_aligned n align s
step (command.Extend more) s = extend more s

-- the answers to commands in order
abbrev pub answers : List Command → State → List Answer
answers [] s = []
answers (c ∷ cs) s = (step c s).answer ∷ answers cs (step c s).state

-- the state that commands in order leave
abbrev pub after : List Command → State → State
after [] s = s
after (c ∷ cs) s = after cs (step c s).state

-- ---- the answers as the code has them (`program` is `src/answers.rt`)

-- a row of a full report, as the machine has it
abbrev pub row_view : FullRow → Row
row_view row = record { class = row.class; size = row.size; count = row.count }

-- an answer, as the machine returns it
abbrev pub answer_view : program.Answer → Answer
answer_view (program_answer.Grant number offset) = Grant number offset
answer_view program_answer.Refused = Refused
answer_view program_answer.Freed = Freed
answer_view program_answer.Gone = Gone
answer_view (program_answer.Size n) = Size n
answer_view (program_answer.Report r) = Report r.total_free_space r.largest_free_region
answer_view (program_answer.Full rows) = Full (map row_view rows.items)
answer_view program_answer.Reset = Reset
answer_view program_answer.Extended = Extended
