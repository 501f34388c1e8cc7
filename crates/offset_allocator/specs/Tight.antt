-- Requests that take any free block that is large enough, whatever its class.
use Rattle.std.specs.Prelude.{◌≡◌, ℕ, ◌+◌, ◌<◌, ◌≤◌, ◌⊎◌, Bool, false, List, ◌∷◌, ◌++◌, drop, length, max, sum, Option, Some, None, nat_le}
use Rattle.std.specs.List.{concat, find}
use Rattle.offset_allocator.specs.declared.reports.Refusal.{Refusal}
use Rattle.offset_allocator.specs.declared.reports.Refusal.TheVariants.{Nodes, TooLarge, Space, Fragmented}
use Rattle.offset_allocator.specs.Cells.{ChainCells, node}
use Rattle.offset_allocator.specs.Classes.{value, down}
use Rattle.offset_allocator.specs.Relations.{SameState, Splits, Aligns}
use Rattle.offset_allocator.specs.Requests.{AdmitsBlocks, CanGrant, Holds, blocks_needed, units_needed}
use Rattle.offset_allocator.specs.View.{View, Handle, Place, units, place_of, padding_to, push, remove, free_sizes}

-- a free block holds n units from a multiple of align on
abbrev pub HasBlockFor : ℕ → ℕ → View → Type 0
HasBlockFor n align v = (p : Place) × (v.blocks ≡ p.before ++ (p.block ∷ p.after)) × (p.block.used ≡ false) × Holds n align p

-- one does, and there is room for the blocks that the request may add
abbrev pub CanHold : ℕ → ℕ → View → Type 0
CanHold n align v = AdmitsBlocks (blocks_needed align) v × HasBlockFor n align v

-- whether the block of a name holds them
abbrev pub holds : ℕ → ℕ → Option Place → Bool
holds n align None = false
holds n align (Some p) = nat_le (padding_to align (units p.before) + n) p.block.size

-- the names of the bins from class c on: class by class, those of a bin from its newest on
abbrev pub listed_from : ℕ → List (List ℕ) → List ℕ
listed_from c bins = concat (drop c bins)

-- the first of them, from the class of n units on, whose block holds n units from a multiple of align on
abbrev pub first_holding : ℕ → ℕ → View → Option ℕ
first_holding n align v = find (λ x. holds n align (place_of x v.blocks)) (listed_from (down n) v.bins)

-- the name x is the first of the bin of class c
abbrev pub with_first : ℕ → ℕ → View → View
with_first c x v = record v { bins = push c x (remove c x v.bins) }

-- a request for the block that is first to hold it: this is split as if it were the newest of its bin, that of class c.
-- It is refused where no free block holds it
abbrev pub FillsFirst : ℕ → ℕ → View → View → Option Handle → Type 0
FillsFirst n align v w None = (CanHold n align v → ⊥) × SameState v w
FillsFirst n align v w (Some g) = AdmitsBlocks (blocks_needed align) v × ((c x : ℕ) × (first_holding n align v ≡ Some x) × Splits (value c) n (padding_to align) (with_first c x v) w g)

-- a request as `Aligns` has it, and where that refuses it, one for the block that is first to hold it
abbrev pub AlignsTight : ℕ → ℕ → View → View → Option Handle → Type 0
AlignsTight n align v w None = FillsFirst n align v w None
AlignsTight n align v w (Some g) = Aligns n align v w (Some g)
    ⊎ ((CanGrant (blocks_needed align) (units_needed n align) v → ⊥) × FillsFirst n align v w (Some g))

-- why such a request is refused. Nodes: there is no room for the blocks. TooLarge: the whole space is smaller. Space: so
-- are all free units together, or there are none. Fragmented: together they are enough, but no free block holds it
abbrev pub IsWhyTight : ℕ → ℕ → View → Refusal → Type 0
IsWhyTight n align v Nodes = v.max_allocs ≤ length v.blocks + blocks_needed align
IsWhyTight n align v TooLarge = AdmitsBlocks (blocks_needed align) v × (v.size < n)
IsWhyTight n align v Space = AdmitsBlocks (blocks_needed align) v × (n ≤ v.size) × (sum (free_sizes v.blocks) < max 1 n) × (CanHold n align v → ⊥)
IsWhyTight n align v Fragmented = AdmitsBlocks (blocks_needed align) v × (max 1 n ≤ sum (free_sizes v.blocks)) × (CanHold n align v → ⊥)

-- whether the block of a name holds them, by the tables
abbrev pub holds_in : ChainCells → ℕ → ℕ → ℕ → Bool
holds_in t n align x = nat_le (padding_to align (node t x).offset + n) (node t x).size
