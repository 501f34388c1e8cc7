-- What `play_calls` returns.
use Rattle.std.specs.Prelude.{◌≡◌, ℕ, List, [], ◌∷◌, ◌++◌}
use Rattle.offset_script.specs.Machine.{start}
use Rattle.offset_script.specs.Steps.{AreStepsFromFresh}
use Rattle.offset_calls.specs.declared.calls.Call.{Call}
use Rattle.offset_calls.specs.Calls.{Reply, reply_view}
use Rattle.offset_calls.specs.Calls as plain
use Rattle.offset_calls.specs.declared.calls.Reply as program
use Rattle.offset_calls.specs.Steps.{Takes}

-- these are the replies to calls, from one free block of size units
pub record AreReplies (size limit : ℕ) (calls : List Call) (found : List Reply) : Type 0 where
  -- they are those of the plain machine
  pub replies : found ≡ plain.replies calls (start size limit)
  -- they are those of the allocator's named steps on a fresh space, one after the other
  pub steps : AreStepsFromFresh Takes size limit calls found

-- one more reply is at the end of a list, of which this holds
abbrev pub IsAppended : (Reply → Type 0) → List program.Reply → List program.Reply → Type 0
IsAppended P before after = (r : program.Reply) × (after ≡ before ++ r ∷ []) × P (reply_view r)
