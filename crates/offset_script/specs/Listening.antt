-- What a listener is told of each command.
use Rattle.std.specs.Prelude.{◌≡◌, List, Option, length, sum}
use Rattle.offset_allocator.specs.View.{View, Handle, free_sizes, reported_free, reported_largest}
use Rattle.offset_script.specs.declared.scripts.Command.{Command}
use Rattle.offset_script.specs.Machine.{State, Answer, step, report, total}
use Rattle.offset_script.specs.Machine as machine
use Rattle.offset_script.specs.Steps.{Takes}

-- a space says of itself what a state of the plain machine does: what it reports, how many blocks it has and may have,
-- and how many units, and free ones
pub record Shows (v : View) (s : State) : Type 0 where
  pub report : machine.Report (reported_free v) (reported_largest v) ≡ report s
  pub blocks : length v.blocks ≡ length s.blocks
  pub limit : v.max_allocs ≡ s.limit
  pub units : v.size ≡ total s.blocks
  pub free : sum (free_sizes v.blocks) ≡ sum (machine.free_sizes s.blocks)

-- a command had this answer, that of the plain machine in this state, and a named step of the allocator left this space
pub record IsTold (c : Command) (s : State) (v : View) (a : Answer) : Type 0 where
  pub answer : a ≡ (step c s).answer
  pub shows : Shows v (step c s).state
  pub taken : (before : View) × (handles : List (Option Handle)) × (kept : List (Option Handle)) × Takes c before handles v kept a
