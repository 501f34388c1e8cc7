-- The numbers of a state: what is written of a space, and what is read back.
use Rattle.std.specs.Prelude.{◌≡◌, ℕ, ◌+◌, ◌*◌, ◌%◌, ◌<◌, ◌≤◌, Bool, false, not, ◌||◌, List, [], ◌∷◌, ◌++◌, drop, length, map, nat_eq, if◌then◌else◌, replicate}
use Rattle.std.specs.List.{concat}
use Rattle.std.specs.Int.{w32, from_le_bytes}
use Rattle.offset_allocator.specs.Classes.{down}
use Rattle.offset_allocator.specs.declared.states.restore.Header.{Header}
use Rattle.offset_allocator.specs.View.{View, Block, IsWellFormed, AreNames, push}

-- bytes as numbers of 32 bits, the lowest byte of each first
abbrev pub words_in : List ℕ → List ℕ
words_in (a ∷ b ∷ c ∷ d ∷ rest) = from_le_bytes w32 (a ∷ b ∷ c ∷ d ∷ []) ∷ words_in rest
words_in _ = []

-- the checksum of numbers, from one of those before
abbrev pub checksum_from : ℕ → List ℕ → ℕ
checksum_from s [] = s
checksum_from s (w ∷ ws) = checksum_from ((s * 16777619 + w) % 4294967296) ws

-- blocks from the end of the space to its start: the name and the size of each
abbrev pub block_words : List Block → List ℕ
block_words [] = []
block_words (b ∷ bs) = block_words bs ++ b.name ∷ b.size ∷ []

-- whether a name is in a list
abbrev pub is_among : ℕ → List ℕ → Bool
is_among x [] = false
is_among x (y ∷ ys) = nat_eq x y || is_among x ys

-- the blocks, free where their name is in a list
abbrev pub freed : List ℕ → List Block → List Block
freed xs bs = map (λ (b : Block). record b { used = not (is_among b.name xs) }) bs

-- the size of the block of a name
abbrev pub size_named : ℕ → List Block → ℕ
size_named x [] = 0
size_named x (b ∷ bs) = if nat_eq x b.name then b.size else size_named x bs

-- the bins after these names were pushed, the last one first, each onto that of the size of its block
abbrev pub filed : List Block → List ℕ → List (List ℕ)
filed bs [] = replicate 256 []
filed bs (x ∷ xs) = push (down (size_named x bs)) x (filed bs xs)

-- the names of the free blocks: bin by bin, those of a bin from its newest on
abbrev pub free_names : View → List ℕ
free_names v = concat v.bins

-- the number that a state begins with, and the version of the form
abbrev pub state_form : ℕ
state_form = 1414742351

abbrev pub state_version : ℕ
state_version = 1

-- the numbers of the state of a view: the form and its version, sizes, counts, blocks, names of free blocks, unused names,
-- the next one last
abbrev pub state_words : View → List ℕ
state_words v =
    state_form ∷ state_version ∷ v.size ∷ v.max_allocs ∷ length v.blocks ∷ length (free_names v) ∷ length v.unused ∷ (block_words v.blocks ++ (free_names v ++ v.unused))

-- the same, and their checksum
abbrev pub state_text : View → List ℕ
state_text v = state_words v ++ checksum_from 0 (state_words v) ∷ []

-- the bytes of the state of a view
pub record IsStateOf (v : View) (bytes : List ℕ) : Type 0 where
  pub whole : length bytes % 4 ≡ 0
  pub text : words_in bytes ≡ state_text v

-- the sizes and counts that the words of a state begin with: as many words as they say, and as many nodes as the limit
-- admits, which `max` and `most` admit
pub record IsHeader (max most : ℕ) (ws : List ℕ) (h : Header) : Type 0 where
  pub words : ws ≡ state_form ∷ state_version ∷ h.size ∷ h.max_allocs ∷ h.blocks ∷ h.free ∷ h.unused ∷ drop 7 ws
  pub long : length ws ≡ 8 + 2 * h.blocks + h.free + h.unused
  pub some : 1 ≤ h.blocks
  pub within : h.blocks + h.unused ≤ h.max_allocs
  pub room : h.blocks + 1 ≤ h.max_allocs
  pub admitted : h.max_allocs + 1 < max
  pub asked : h.max_allocs ≤ most

-- a space that was read: of these numbers, with a node limit that was admitted, and no access counted
abbrev pub IsOfWords : List ℕ → ℕ → View → Type 0
IsOfWords ws most v = (ws ≡ state_text v) × (v.accesses ≡ 0) × (v.max_allocs ≤ most)

-- the same, of bytes
abbrev pub IsRestored : List ℕ → ℕ → View → Type 0
IsRestored bytes most v = IsStateOf v bytes × (v.accesses ≡ 0) × (v.max_allocs ≤ most)

-- no space whose node limit is admitted has these bytes
abbrev pub IsNoState : ℕ → ℕ → List ℕ → Type 0
IsNoState max most bytes = (v : View) → IsWellFormed v → AreNames v → v.max_allocs + 1 < max → v.max_allocs ≤ most → IsStateOf v bytes → ⊥
