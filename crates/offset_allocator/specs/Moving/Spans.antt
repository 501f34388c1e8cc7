-- Neighbouring blocks in numbers, as the search for the cheapest run keeps them, and the ways it goes over the blocks.
use Rattle.std.specs.Prelude.{◌≡◌, ℕ, ◌-◌, ◌%◌, ◌<◌, ◌≤◌, ◌⊎◌, Bool, true, false, not, ◌&&◌, List, [], ◌∷◌, ◌++◌, Option, None, Some, length, nat_eq, if◌then◌else◌}
use Rattle.offset_allocator.specs.Cells.{ChainCells, node}
use Rattle.offset_allocator.specs.Chain.{first_or}
use Rattle.offset_allocator.specs.Moving.Room.{IsAtMost, IsLess}
use Rattle.offset_allocator.specs.declared.moves.runs.Run.{Run}
use Rattle.offset_allocator.specs.declared.moves.runs.Span.{Span}
use Rattle.offset_allocator.specs.declared.moves.runs.Sums.{Sums}
use Rattle.offset_allocator.specs.View.{Block, one, tally, count_used, used_units}

-- the whole steps of s units of the free ones of blocks
abbrev pub whole_steps : ℕ → List Block → ℕ
whole_steps s bs = tally (λ b. if b.used then 0 else b.size - b.size % s) bs

-- how many of the free ones are whole steps
abbrev pub all_steps : ℕ → List Block → ℕ
all_steps s bs = tally (λ b. one (not b.used && nat_eq (b.size % s) 0)) bs

-- the whole steps of blocks are at least `need` units, and at least `few` free ones are whole steps
abbrev pub HaveSteps : ℕ → ℕ → ℕ → List Block → Type 0
HaveSteps s need few bs = (need ≤ whole_steps s bs) × (few ≤ all_steps s bs)

-- neighbouring blocks in numbers: their whole steps, how many are whole steps, the live units, and how many are live
pub record AreSums (s : ℕ) (n : Sums) (bs : List Block) : Type 0 where
  pub whole : n.whole ≡ whole_steps s bs
  pub names : n.names ≡ all_steps s bs
  pub units : n.units ≡ used_units bs
  pub ranges : n.ranges ≡ count_used bs

-- the first block of a span
abbrev pub head_of : Span → Block
head_of h = record { name = h.first; size = h.size; used = h.used }

-- neighbouring blocks: the first of them, and their numbers
pub record IsSpan (s : ℕ) (h : Span) (bs : List Block) : Type 0 where
  pub sums : AreSums s h.sums bs
  pub more : List Block
  pub head : bs ≡ head_of h ∷ more

-- the last ones of blocks, which still have such steps
pub record IsLeft (s need few : ℕ) (h : Span) (bs : List Block) : Type 0 where
  pub gone : List Block
  pub left : List Block
  pub is : bs ≡ gone ++ left
  pub span : IsSpan s h left
  pub enough : HaveSteps s need few left

-- the link to the next block on a way: to the one before, where the way goes back
abbrev pub link_on : ChainCells → Bool → ℕ → Option ℕ
link_on c back k = if back then (node c k).before else (node c k).after

-- these blocks are in the tables, each linked to the next one on a way
abbrev pub IsWay : ChainCells → Bool → List Block → Type 0
IsWay c back [] = Unit {0}
IsWay c back (b ∷ bs) =
    (b.name < length c.nodes) × ((node c b.name).size ≡ b.size) × ((node c b.name).used ≡ b.used)
    × (link_on c back b.name ≡ first_or None bs) × IsWay c back bs

-- no free one of blocks is enough alone: one gives up all its units, and its name
abbrev pub HasNoneAlone : ℕ → ℕ → List Block → Type 0
HasNoneAlone want short bs = (front back : List Block) (b : Block) → bs ≡ front ++ b ∷ back → b.used ≡ false → want ≤ b.size → short ≤ 1 → ⊥

-- the cheaper of the known run and one that was found after it; of two that cost as much the one that begins later in
-- space: the known one, where the way goes back
abbrev pub IsBetter : Bool → Option Run → Run → Run → Type 0
IsBetter back None found r = r ≡ found
IsBetter back (Some k) found r =
    ((r ≡ k) × IsAtMost k.cost found.cost × (back ≡ false → IsLess k.cost found.cost))
    ⊎ ((r ≡ found) × IsAtMost found.cost k.cost × (back ≡ true → IsLess found.cost k.cost))

-- a run as it lies in space: its first block is the last one on a way that goes back
abbrev pub in_space : Bool → Option Run → Option Run
in_space back None = None
in_space back (Some r) = Some (if back then record { first = r.end; end = r.first; cost = r.cost } else r)
