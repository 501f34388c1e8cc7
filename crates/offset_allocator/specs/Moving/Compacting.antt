-- What `compact` leaves: the live ranges at the front of the space, and all free units in one block after them.
use Rattle.std.specs.Prelude.{◌≡◌, ℕ, zero, suc, ◌+◌, ◌<◌, ◌≤◌, List, [], ◌∷◌, ◌++◌, Option, Some, None, option_map, sum, replicate, nat_eq, nat_lt, if◌then◌else◌, drop, IfSome}
use Rattle.std.specs.List.{AllByRecursion, filter}
use Rattle.offset_allocator.specs.declared.moves.one_move.Move.{Move as Moved}
use Rattle.offset_allocator.specs.Chain.{last_or}
use Rattle.offset_allocator.specs.View.{View, Block, count_named, free_sizes, free_block, push_all, times}
use Rattle.offset_allocator.specs.Ranges.{Range, range_of}
use Rattle.offset_allocator.specs.Names.{Renames, free_blocks}
use Rattle.offset_allocator.specs.Relations.{SameSpace}

-- a range that goes to another offset
pub record Move : Type 0 where
  pub name : ℕ
  pub from : ℕ
  pub to : ℕ
  pub size : ℕ

-- the used blocks
abbrev pub live : List Block → List Block
live bs = filter (λ b. b.used) bs

-- the move of a block, where it goes to another offset
abbrev pub move_of : ℕ → ℕ → Block → List Move
move_of from to b = if nat_eq from to then [] else record { name = b.name; from = from; to = to; size = b.size } ∷ []

-- the moves of the used ones of blocks that begin at an offset, if they are packed from another offset on
abbrev pub moves : ℕ → ℕ → List Block → List Move
moves from to [] = []
moves from to (b ∷ bs) = if b.used then move_of from to b ++ moves (from + b.size) (to + b.size) bs else moves (from + b.size) to bs

-- each of these goes to a smaller offset, and ends before all that the later ones have yet to read: so they can be
-- copied one after the other
abbrev pub AreSafe : List Move → Type 0
AreSafe [] = Unit {0}
AreSafe (m ∷ ms) = (m.to < m.from) × AllByRecursion (λ k. m.to + m.size ≤ k.from) ms × AreSafe ms

-- all units that these read and write lie between two offsets
abbrev pub AreBetween : ℕ → ℕ → List Move → Type 0
AreBetween first end ms = AllByRecursion (λ m. (first ≤ m.to) × (m.to + m.size ≤ end) × (m.from + m.size ≤ end)) ms

-- each live range keeps its size, and no other name becomes live
abbrev pub KeepsSizes : View → View → Type 0
KeepsSizes v w = (x : ℕ) → option_map (λ (r : Range). r.size) (range_of x w) ≡ option_map (λ (r : Range). r.size) (range_of x v)

-- the name of the first free block
abbrev pub first_free : List Block → Option ℕ
first_free [] = None
first_free (b ∷ bs) = if b.used then first_free bs else Some b.name

-- how many blocks there are up to the first free one, or in all
abbrev pub until_free : List Block → ℕ
until_free [] = 0
until_free (b ∷ bs) = if b.used then 1 + until_free bs else 1

-- how many blocks there are up to the one named x
abbrev pub until : ℕ → List Block → ℕ
until x [] = 0
until x (b ∷ bs) = if nat_eq x b.name then 1 else 1 + until x bs

-- the newest blocks of the first k bins that have some: their names
abbrev pub newest : ℕ → List (List ℕ) → List ℕ
newest zero bins = []
newest (suc k) [] = []
newest (suc k) ([] ∷ bins) = newest (suc k) bins
newest (suc k) ((x ∷ xs) ∷ bins) = x ∷ newest k bins

-- the name of the first block that has one of these names
abbrev pub first_among : List ℕ → List Block → Option ℕ
first_among xs [] = None
first_among xs (b ∷ bs) = if nat_lt 0 (times b.name xs) then Some b.name else first_among xs bs

-- the blocks up to the one named x have the first free block among them, or are all
abbrev pub IsStart : List Block → ℕ → Type 0
IsStart bs x = (front : List Block) × (rest : List Block) × (bs ≡ front ++ rest) × (last_or None front ≡ Some x)
    × (first_free front ≡ None → rest ≡ [])

-- one free block of all these sizes, or nothing where there are none
abbrev pub gathered : ℕ → List ℕ → List Block
gathered x [] = []
gathered x (n ∷ ns) = free_block x (n + sum ns) ∷ []

-- a step of a closure is a call with this move
abbrev pub IsCalledWith : {A N F : Type 0} → (N → ℕ) → (F → Moved A N → F → Type 0) → F → Move → F → Type 0
IsCalledWith {A} {N} number step f x g = (m : Moved A N)
    × (x ≡ record { name = number m.name; from = m.from; to = m.to; size = m.size }) × step f m g

-- the used blocks are packed at the front, and the free units are one block at the end, alone in its bin, under the name
-- of the first free block
pub record Compacts (v w : View) : Type 0 where
  pub name : ℕ
  pub below : name < v.max_allocs
  pub first : IfSome (first_free v.blocks) (λ x. name ≡ x)
  pub names : Renames v (drop 1 (free_blocks v.blocks)) [] w
  pub absent : count_named name (live v.blocks) ≡ 0
  pub view : SameSpace (record v { blocks = live v.blocks ++ gathered name (free_sizes v.blocks); bins = push_all (gathered name (free_sizes v.blocks)) (replicate 256 []) }) w
