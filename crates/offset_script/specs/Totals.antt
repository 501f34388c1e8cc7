-- What commands request and add, and what is live.
use Rattle.std.specs.Prelude.{ℕ, ◌+◌, not, List, [], ◌∷◌, filter}
use Rattle.offset_script.specs.declared.scripts.Command.{Command}
use Rattle.offset_script.specs.declared.scripts.Command.TheVariants as command
use Rattle.offset_script.specs.Machine.{Block, is_free, State, Answer, step}
use Rattle.offset_script.specs.Machine as machine

-- the units that a command requests
abbrev pub requested_units : Command → ℕ
requested_units (command.Alloc n) = n
requested_units (command.Align n align) = n
requested_units other = 0

-- the live blocks
abbrev pub live : List Block → List Block
live bs = filter (λ b. not (is_free b.tag)) bs

-- the units that a command with this answer adds to the space
abbrev pub added_units : Command → Answer → ℕ
added_units (command.Extend more) machine.Extended = more
added_units c a = 0

-- the units that commands add to the space
abbrev pub added_by : List Command → State → ℕ
added_by [] s = 0
added_by (c ∷ cs) s = added_units c (step c s).answer + added_by cs (step c s).state
