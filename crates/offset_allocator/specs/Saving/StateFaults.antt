-- What is wrong with the bytes of a state, and where.
use Rattle.std.specs.Prelude.{◌≡◌, ◌≢◌, ℕ, ◌+◌, ◌-◌, ◌*◌, ◌%◌, ◌<◌, ◌≤◌, ◌⊎◌, List, drop, length, take}
use Rattle.offset_allocator.specs.Saving.Building.{AreEach}
use Rattle.offset_allocator.specs.Saving.ListFaults.{AreBlocks, AreFreeNames, IsWrong, word}
use Rattle.offset_allocator.specs.Saving.State.{checksum_from, freed, state_form, state_version, words_in}
use Rattle.offset_allocator.specs.View.{Block as BlockOf, AreCoalesced, count_used}
use Rattle.offset_allocator.specs.declared.states.building.Wrong.{Wrong}
use Rattle.offset_allocator.specs.declared.states.building.Wrong.TheVariants as wrong
use Rattle.offset_allocator.specs.declared.states.state.ReadError.{ReadError}
use Rattle.offset_allocator.specs.declared.states.state.ReadError.TheVariants.{Memory, Fault}
use Rattle.offset_allocator.specs.declared.states.state.StateFault.{StateFault}
use Rattle.offset_allocator.specs.declared.states.state.StateFaultKind.{StateFaultKind}
use Rattle.offset_allocator.specs.declared.states.state.StateFaultKind.TheVariants.{Length, Form, Limit, Counts, Checksum, Block, Unused, Free, Neighbours}

-- they begin as a state does
abbrev pub HasForm : List ℕ → Type 0
HasForm ws = (8 ≤ length ws) × (word 0 ws ≡ state_form) × (word 1 ws ≡ state_version)

-- the node limit is admitted
abbrev pub HasLimit : ℕ → ℕ → List ℕ → Type 0
HasLimit max most ws = (word 3 ws + 1 < max) × (word 3 ws ≤ most)

-- the node limit admits the blocks and the unused names
abbrev pub HasCounts : List ℕ → Type 0
HasCounts ws = (1 ≤ word 4 ws) × (word 4 ws + 1 ≤ word 3 ws) × (word 4 ws + word 6 ws ≤ word 3 ws)

-- there are as many numbers as the counts say
abbrev pub HasLength : List ℕ → Type 0
HasLength ws = length ws ≡ 8 + 2 * word 4 ws + word 5 ws + word 6 ws

-- the last number is the checksum of those before it
abbrev pub HasChecksum : List ℕ → Type 0
HasChecksum ws = checksum_from 0 (take (length ws - 1) ws) ≡ word (length ws - 1) ws

-- all of these hold
pub record IsHeaded (max most : ℕ) (ws : List ℕ) : Type 0 where
  pub form : HasForm ws
  pub limit : HasLimit max most ws
  pub counts : HasCounts ws
  pub long : HasLength ws
  pub sum : HasChecksum ws

-- the lists behind seven numbers: two words for each block, the names of free blocks, and unused names
abbrev pub blocks_in : List ℕ → List ℕ
blocks_in ws = take (2 * word 4 ws) (drop 7 ws)

abbrev pub free_in : List ℕ → List ℕ
free_in ws = take (word 5 ws) (drop (7 + 2 * word 4 ws) ws)

abbrev pub unused_in : List ℕ → List ℕ
unused_in ws = take (word 6 ws) (drop (7 + 2 * word 4 ws + word 5 ws) ws)

-- a word of one of the lists, which is the first that is wrong: each block and each unused name has a node
abbrev pub IsWrongIn : List ℕ → Wrong → Type 0
IsWrongIn ws = IsWrong (word 4 ws + word 6 ws) (word 2 ws) (blocks_in ws) (free_in ws) (unused_in ws)

-- no word of the lists is wrong, and these are the blocks
pub record AreListed (ws : List ℕ) (bs : List BlockOf) : Type 0 where
  pub blocks : AreBlocks (word 4 ws + word 6 ws) (word 2 ws) (blocks_in ws) bs
  pub each : AreEach bs (unused_in ws)
  pub free : AreFreeNames bs (free_in ws)
  pub apart : AreCoalesced (freed (free_in ws) bs)

-- more of the blocks are used than the node limit admits
abbrev pub IsOverused : List ℕ → Type 0
IsOverused ws = (bs : List BlockOf) × AreListed ws bs × (word 3 ws < count_used (freed (free_in ws) bs) + 2)

-- what a fault says, by its kind: the first of these that does not hold, and its place. Where all hold, it is the first word
-- of the lists that is wrong; and where none is, more of the blocks are used than the node limit admits
abbrev pub IsFaultOf : ℕ → ℕ → List ℕ → ℕ → StateFaultKind → Type 0
IsFaultOf max most ws at Length = (at ≡ 4 * length ws) × ((length ws < 8) ⊎ (HasForm ws × HasLimit max most ws × HasCounts ws × (HasLength ws → ⊥)))
IsFaultOf max most ws at Form = (at ≡ 0) × (8 ≤ length ws) × (HasForm ws → ⊥)
IsFaultOf max most ws at Limit = (at ≡ 12) × HasForm ws × (HasLimit max most ws → ⊥)
IsFaultOf max most ws at Counts = (at ≡ 16) × HasForm ws × HasLimit max most ws × ((HasCounts ws → ⊥) ⊎ (IsHeaded max most ws × IsOverused ws))
IsFaultOf max most ws at Checksum = (at + 4 ≡ 4 * length ws) × HasForm ws × HasLimit max most ws × HasCounts ws × HasLength ws × (HasChecksum ws → ⊥)
IsFaultOf max most ws at Block = IsHeaded max most ws × ((i : ℕ) × (at ≡ 4 * (7 + i)) × IsWrongIn ws (wrong.Block i))
IsFaultOf max most ws at Unused = IsHeaded max most ws × ((i : ℕ) × (at ≡ 4 * (7 + 2 * word 4 ws + word 5 ws + i)) × IsWrongIn ws (wrong.Unused i))
IsFaultOf max most ws at Free = IsHeaded max most ws × ((i : ℕ) × (at ≡ 4 * (7 + 2 * word 4 ws + i)) × IsWrongIn ws (wrong.Free i))
-- the place is that of the name of this block
IsFaultOf max most ws at Neighbours = IsHeaded max most ws × ((i : ℕ) × (at ≡ 4 * (7 + 2 * i)) × IsWrongIn ws (wrong.Neighbours i))

-- what a fault of bytes says: where they are no multiple of 4, that alone
abbrev pub IsFault : ℕ → ℕ → List ℕ → StateFault → Type 0
IsFault max most bytes f = ((length bytes % 4 ≢ 0) × (f ≡ record { at = length bytes; kind = Length }))
    ⊎ ((length bytes % 4 ≡ 0) × IsFaultOf max most (words_in bytes) f.at f.kind)

-- what holds of the fault, where bytes were not read for one
abbrev pub IfFault : {F : Type 0} → ReadError F → (F → Type 0) → Type 0
IfFault Memory holds = Unit {0}
IfFault (Fault f) holds = holds f
