-- The lives of grants: which range each has, and during which calls.
use Rattle.std.specs.Prelude.{◌≡◌, ℕ, ◌+◌, ◌-◌, ◌≤◌, Bool, true, false, not, ◌&&◌, ◌⊎◌, List, [], ◌∷◌, ◌++◌, length, take, All, AllPairs, Option, Some, None, nat_eq, nat_lt, nat_le, if◌then◌else◌}
use Rattle.std.specs.List.{prefix_len}
use Rattle.offset_script.specs.declared.scripts.Command.{Command}
use Rattle.offset_script.specs.declared.scripts.Command.TheVariants as command
use Rattle.offset_script.specs.Machine.{Block, has_number, total, Answer, State, answers, after, start}
use Rattle.offset_script.specs.Machine as machine
use Rattle.offset_script.specs.Totals.{requested_units}
use Rattle.offset_pictures.specs.declared.living.Life as living

-- the grant of this number has size units from offset on; it is live from after call first to call last, counted from 0, and
-- `lived` is how many calls that are
pub record Life : Type 0 where
  pub number : ℕ
  pub offset : ℕ
  pub size : ℕ
  pub first : ℕ
  pub last : ℕ
  pub lived : ℕ

-- a life of the program, as plain data
abbrev pub life_view : living.Life → Life
life_view l = record { number = l.number; offset = l.offset; size = l.size; first = l.first; last = l.last; lived = l.lived }

-- whether a command leaves grant k live: all do but a reset and a release of k
abbrev pub leaves : ℕ → Command → Bool
leaves k (command.Free j) = not (nat_eq j k)
leaves k command.Reset = false
leaves k other = true

-- the life that begins with this answer to call i, if it is a grant; `end` has the call that ends each grant
abbrev pub life_of_answer : ℕ → Command → Answer → (ℕ → ℕ) → List Life
life_of_answer i c (machine.Grant k offset) end = record { number = k; offset = offset; size = requested_units c; first = i; last = end k; lived = end k - i } ∷ []
life_of_answer i c other end = []

-- the call that ends grant k, among these commands, the first of which is call i; or the number of all calls
abbrev pub end_from : ℕ → List Command → ℕ → ℕ
end_from i cs k = i + prefix_len (leaves k) cs

-- the lives that begin with these commands, the first of which is call i, and their answers
abbrev pub lives_from : ℕ → List Command → List Answer → List Life
lives_from i (c ∷ cs) (a ∷ more) = life_of_answer i c a (end_from (i + 1) cs) ++ lives_from (i + 1) cs more
lives_from i cs answers = []

-- the lives of all grants of the plain machine, from one free block of size units
abbrev pub lives_of : ℕ → ℕ → List Command → List Life
lives_of size limit cs = lives_from 0 cs (answers cs (start size limit))

-- ---- lives and the space

-- the offset and the size of the live block of grant k, if there is one, where the first of these blocks begins at
-- offset
abbrev pub range_of : ℕ → ℕ → List Block → Option (ℕ × ℕ)
range_of k offset [] = None
range_of k offset (b ∷ bs) = if has_number k b.tag then Some (offset, b.size) else range_of k (offset + b.size) bs

-- the blocks after the first i commands
abbrev pub blocks_after : ℕ → ℕ → ℕ → List Command → List Block
blocks_after i size limit cs = (after (take i cs) (start size limit)).blocks

-- whether a life is on after the first i calls
abbrev pub is_on : ℕ → Life → Bool
is_on i l = nat_lt l.first i && nat_le i l.last

-- a live block of the life's number exists, with its range, exactly while the life is on
abbrev pub IsSeen : ℕ → ℕ → List Command → Life → Type 0
IsSeen size limit cs l = (i : ℕ) → i ≤ length cs → range_of l.number 0 (blocks_after i size limit cs) ≡ (if is_on i l then Some (l.offset, l.size) else None)

-- the range of a life lies within the space as the call of its grant left it
abbrev pub IsWithin : ℕ → ℕ → List Command → Life → Type 0
IsWithin size limit cs l = l.offset + l.size ≤ total (blocks_after (l.first + 1) size limit cs)

-- a life does not end before it begins
abbrev pub IsOrdered : Life → Type 0
IsOrdered l = l.first ≤ l.last

-- two lives share no unit at any time
abbrev pub AreApart : Life → Life → Type 0
AreApart a b = (a.last ≤ b.first) ⊎ ((b.last ≤ a.first) ⊎ ((a.offset + a.size ≤ b.offset) ⊎ (b.offset + b.size ≤ a.offset)))

-- in any script, each life is what the space shows
abbrev pub LivesAreSeen : Type 0
LivesAreSeen = (size limit : ℕ) → 2 ≤ limit → (cs : List Command) → All (IsSeen size limit cs) (lives_of size limit cs)

-- in any script, no life leaves the space
abbrev pub LivesAreWithin : Type 0
LivesAreWithin = (size limit : ℕ) → 2 ≤ limit → (cs : List Command) → All (IsWithin size limit cs) (lives_of size limit cs)

-- in any script, no two lives share a unit at any time
abbrev pub LivesAreApart : Type 0
LivesAreApart = (size limit : ℕ) → 2 ≤ limit → (cs : List Command) → AllPairs AreApart (lives_of size limit cs)
