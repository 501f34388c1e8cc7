-- Laws over whole histories of the plain machine.
use Rattle.std.specs.Prelude.{take, drop, ◌≡◌, ◌≢◌, ℕ, ◌+◌, ◌-◌, true, List, [], ◌∷◌, ◌++◌, length, map, Option, Some, None, IsTrue, nat_eq, nat_le, if◌then◌else◌}
use Rattle.std.specs.List.{AllByRecursion, list_any}
use Rattle.std.specs.Option.{option_map_or}
use Rattle.offset_script.specs.declared.scripts.Command.{Command}
use Rattle.offset_script.specs.declared.scripts.Command.TheVariants as command
use Rattle.offset_script.specs.Machine.{Tag, Live, Free, Block, is_free, total, State, Answer, start, step, answers, after}
use Rattle.offset_script.specs.Machine as machine

-- a command with the function r applied to its grant number, if it has one
abbrev pub renumber : (ℕ → ℕ) → Command → Command
renumber r (command.Free k) = command.Free (r k)
renumber r (command.Size k) = command.Size (r k)
renumber r other = other

-- an answer with g added to the number of a grant, if it is one
abbrev pub raise_number : ℕ → Answer → Answer
raise_number g (machine.Grant k offset) = machine.Grant (k + g) offset
raise_number g other = other

-- ---- answers with other grant numbers

-- a grant number as it would be without the j grants after the first g; those become 0, the number of no grant
abbrev pub number_without : ℕ → ℕ → ℕ → ℕ
number_without g j k = if nat_le k g then k else if nat_le k (g + j) then 0 else k - j

-- the answers from s on, numbered as those from t on, where t has made more grants
abbrev pub answers_renumbered : State → State → List Command → List Answer
answers_renumbered s t cs = map (raise_number (t.grants - s.grants))
    (answers (map (renumber (number_without s.grants (t.grants - s.grants))) cs) s)

-- ---- a space without live grants continues as a fresh one

-- no block is live
abbrev pub HasNoLive : State → Type 0
HasNoLive s = AllByRecursion (λ b. IsTrue (is_free b.tag)) s.blocks

-- wherever no block is live, the answers found from there on are those of a fresh machine of as many units, numbered as
-- here
abbrev pub HasFreshRestarts : ℕ → ℕ → List Command → List Answer → Type 0
HasFreshRestarts size limit cs found = (i : ℕ) → let s = after (take i cs) (start size limit) in
    HasNoLive s → drop i found ≡ answers_renumbered (start (total s.blocks) s.limit) s (drop i cs)

-- ---- releases commute

-- the number of a live block, or nothing of a free one
abbrev pub holder : Tag → Option ℕ
holder (Live k) = Some k
holder (Free s) = None

-- the blocks without their stamps: their sizes, and the numbers of the live ones
abbrev pub outline : List Block → List (ℕ × Option ℕ)
outline bs = map (λ b. (b.size, holder b.tag)) bs

-- n more free units before these blocks, coalesced with a free block at their start
abbrev pub widen : ℕ → List (ℕ × Option ℕ) → List (ℕ × Option ℕ)
widen n [] = (n, None) ∷ []
widen n (b ∷ bs) = widen_by b.1
  where
    widen_by : Option ℕ → List (ℕ × Option ℕ)
    widen_by None = (n + b.0, None) ∷ bs
    widen_by (Some k) = (n, None) ∷ b ∷ bs

-- each maximal run of neighbours that are free, or live with one of these numbers, becomes one free block
abbrev pub collapse : List ℕ → List (ℕ × Option ℕ) → List (ℕ × Option ℕ)
collapse ks [] = []
collapse ks (b ∷ bs) =
    if option_map_or (λ k. list_any (nat_eq k) ks) b.1 true then widen b.0 (collapse ks bs)
    else b ∷ collapse ks bs

-- t is the collapse of s, with any stamps
pub record IsCollapse (ks : List ℕ) (s t : State) : Type 0 where
  pub limit : t.limit ≡ s.limit
  pub grants : t.grants ≡ s.grants
  pub blocks : outline t.blocks ≡ collapse ks (outline s.blocks)

-- an answer without the offset of a grant
abbrev pub without_offset : Answer → Answer
without_offset (machine.Grant k offset) = machine.Grant k 0
without_offset other = other

-- releases of the grants of these numbers, in this order
abbrev pub releases : List ℕ → List Command
releases ks = map command.Free ks

-- wherever releases in a row occur in the commands, the answer found after them is that of the collapse
abbrev pub HasCommutingReleases : ℕ → ℕ → List Command → List Answer → Type 0
HasCommutingReleases size limit cs found = (before : List Command) (ks : List ℕ) (c : Command) (rest : List Command)
    → cs ≡ before ++ releases ks ++ (c ∷ rest) → (t : State) → IsCollapse ks (after before (start size limit)) t
    → map without_offset (take 1 (drop (length (before ++ releases ks)) found)) ≡ without_offset (step c t).answer ∷ []

-- ---- a nest leaves no trace

-- the answer is that grant k was made
abbrev pub IsGrant : Answer → ℕ → Type 0
IsGrant a k = (offset : ℕ) × (a ≡ machine.Grant k offset)

-- neither a reset nor an extension
abbrev pub KeepsSpace : Command → Type 0
KeepsSpace command.Reset = ⊥
KeepsSpace (command.Extend more) = ⊥
KeepsSpace other = Unit {0}

-- from this state on, these commands release each block that they are granted, the last one first, and no other block
pub data IsNest : State → List Command → Type 0 where
  -- no commands
  done : {s : State} → IsNest s []
  -- the first command neither grants nor releases, and the others are a nest
  quiet : {s : State} {c : Command} {cs : List Command} → KeepsSpace c → ((k : ℕ) → IsGrant (step c s).answer k → ⊥)
      → (step c s).answer ≢ machine.Freed → IsNest (step c s).state cs → IsNest s (c ∷ cs)
  -- the first command is granted as k, and then come a nest, the release of k, and a nest
  paired : {s : State} {c : Command} {k : ℕ} {inner outer : List Command} → KeepsSpace c → IsGrant (step c s).answer k
      → IsNest (step c s).state inner → IsNest (after (inner ++ command.Free k ∷ []) (step c s).state) outer
      → IsNest s (c ∷ (inner ++ (command.Free k ∷ outer)))

-- wherever a nest occurs in the commands, the answers found after it are those without it
abbrev pub HasTracelessNests : ℕ → ℕ → List Command → List Answer → Type 0
HasTracelessNests size limit cs found = (before nest rest : List Command) → cs ≡ before ++ nest ++ rest
    → IsNest (after before (start size limit)) nest
    → drop (length (before ++ nest)) found
    ≡ answers_renumbered (after before (start size limit)) (after (before ++ nest) (start size limit)) rest

-- ---- a question leaves no trace

-- whether a command is a question: it changes nothing
abbrev pub IsQuestion : Command → Type 0
IsQuestion (command.Size k) = Unit {0}
IsQuestion command.Report = Unit {0}
IsQuestion command.Full = Unit {0}
IsQuestion other = ⊥
