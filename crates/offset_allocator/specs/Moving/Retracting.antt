-- Units taken off the end of a space.
use Rattle.std.specs.Prelude.{◌≡◌, ℕ, ◌-◌, ◌≤◌, ◌⊎◌, List, [], ◌∷◌, ◌++◌, Bool, true, false}
use Rattle.offset_allocator.specs.Names.{Renames}
use Rattle.offset_allocator.specs.Relations.{SameSpace, SameState}
use Rattle.offset_allocator.specs.View.{View, Block, free_block, free_part, replace}

-- the last block is free, and has this many units
abbrev pub CanRetract : ℕ → View → Type 0
CanRetract less v = (before : List Block) × (last : Block) × (v.blocks ≡ before ++ last ∷ []) × (last.used ≡ false) × (less ≤ last.size)

-- a free last block of n units after others: nothing where it would have none, unless it is the only one
abbrev pub end_part : List Block → ℕ → ℕ → List Block
end_part [] x n = free_block x n ∷ []
end_part (b ∷ bs) x n = free_part x n

-- the last block, which is free, gives way to what is left of it, the newest of its bin
pub record Cuts (less : ℕ) (v w : View) : Type 0 where
  pub before : List Block
  pub last : Block
  pub blocks : v.blocks ≡ before ++ last ∷ []
  pub free : last.used ≡ false
  pub enough : less ≤ last.size
  pub names : Renames v (last ∷ []) (end_part before last.name (last.size - less)) w
  pub view : SameSpace (record (replace v before (last ∷ []) (end_part before last.name (last.size - less)) []) { size = v.size - less }) w

-- a call for fewer units at the end
abbrev pub Retracts : ℕ → View → View → Bool → Type 0
Retracts less v w true = ((less ≡ 0) × SameState v w) ⊎ ((1 ≤ less) × Cuts less v w)
Retracts less v w false = (1 ≤ less) × (CanRetract less v → ⊥) × SameState v w
