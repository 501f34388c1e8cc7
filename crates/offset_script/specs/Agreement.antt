-- When the named view of an allocator, with the handles kept for its grants, shows the blocks of a plain state.
use Rattle.std.specs.Prelude.{◌≡◌, ℕ, ◌<◌, ◌≤◌, not, List, [], ◌∷◌, length, map, Option, Some, None, nat_eq, if◌then◌else◌}
use Rattle.offset_allocator.specs.View.{Block, Handle, IsWellFormed, View, bin_at, tally, times}
use Rattle.offset_script.specs.Machine.{State, Tag, has_number, is_free, stamp}
use Rattle.offset_script.specs.Machine as machine
use Rattle.offset_script.specs.Steps.{kept_name}

-- a block with both its name and its tag
pub record Label : Type 0 where
  pub name : ℕ
  pub size : ℕ
  pub tag : Tag

-- a labelled block as the named view has it
abbrev pub by_name : Label → Block
by_name l = record { name = l.name; size = l.size; used = not (is_free l.tag) }

-- a labelled block as the plain state has it
abbrev pub by_tag : Label → machine.Block
by_tag l = record { size = l.size; tag = l.tag }

-- the stamp of the block of a name
abbrev pub stamp_of : ℕ → List Label → ℕ
stamp_of x ls = tally (λ l. if nat_eq x l.name then stamp l.tag else 0) ls

-- each name's stamp is above those of the names after it
abbrev pub IsFalling : (ℕ → ℕ) → List ℕ → Type 0
IsFalling f [] = Unit {0}
IsFalling f (x ∷ xs) = ((y : ℕ) → 1 ≤ times y xs → f y < f x) × IsFalling f xs

-- the name of the block of grant k
abbrev pub name_of : ℕ → List Label → Option ℕ
name_of k [] = None
name_of k (l ∷ ls) = if has_number k l.tag then Some l.name else name_of k ls

-- the view and the plain state show the same blocks, each bin has its newest block first, and the name kept for each
-- grant is that of its block
pub record HasBlocksOf (v : View) (kept_name : ℕ → Option ℕ) (s : State) : Type 0 where
  pub labels : List Label
  pub view : v.blocks ≡ map by_name labels
  pub state : s.blocks ≡ map by_tag labels
  pub limit : s.limit ≡ v.max_allocs
  pub newest : (c : ℕ) → IsFalling (λ x. stamp_of x labels) (bin_at v.bins c)
  pub handles : (k : ℕ) → kept_name k ≡ name_of k labels

-- an allocator with the view v, and the handles of its grants so far, represent a state of the plain machine
pub record IsAtState (v : View) (handles : List (Option Handle)) (s : State) : Type 0 where
  pub formed : IsWellFormed v
  pub agrees : HasBlocksOf v (kept_name handles) s
  pub grants : length handles ≡ s.grants
