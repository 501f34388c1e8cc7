-- Which names calls take, and which they give back.
use Rattle.std.specs.Prelude.{◌≡◌, ◌⊎◌, ℕ, suc, not, List, [], ◌∷◌, ◌++◌, length, map}
use Rattle.std.specs.List.{filter}
use Rattle.offset_allocator.specs.View.{View, Block}

-- the names of blocks
abbrev pub names_of : List Block → List ℕ
names_of bs = map (λ (b : Block). b.name) bs

-- the free blocks
abbrev pub free_blocks : List Block → List Block
free_blocks bs = filter (λ (b : Block). not b.used) bs

-- the name x is taken, and the names `left` stay unused: x is the last of the unused ones; or there are none, so that the
-- k blocks have all nodes, and x is k, the name of a new one
abbrev pub IsTaken : ℕ → List ℕ → ℕ → List ℕ → Type 0
IsTaken k unused x left = (unused ≡ left ++ x ∷ []) ⊎ ((unused ≡ []) × (x ≡ k) × (left ≡ []))

-- names are taken, one after the other, each for one block more
abbrev pub AreTaken : ℕ → List ℕ → List ℕ → List ℕ → Type 0
AreTaken k unused [] left = left ≡ unused
AreTaken k unused (x ∷ xs) left = (rest : List ℕ) × IsTaken k unused x rest × AreTaken (suc k) rest xs left

-- the names of the blocks old become unused, in this order, and then those of the blocks new are taken
abbrev pub Renames : View → List Block → List Block → View → Type 0
Renames v old new w = AreTaken (length v.blocks) (v.unused ++ names_of old) (names_of new) w.unused
