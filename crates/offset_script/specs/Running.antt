-- What `parse` and `read_script` return, which faults a run returns, and what a run and a program leave.
use Rattle.std.specs.Prelude.{◌≡◌, ◌≢◌, ℕ, ◌<◌, ◌≤◌, Bool, true, false, not, ◌||◌, List, [], ◌++◌, length, drop, Option, Some, Result, Ok, Err, IfErr, IfSome, MatchResult, OnOk}
use Rattle.std.specs.Io.KnownBytes.{Consumes, IsAtEnd}
use Rattle.offset_script.specs.declared.faults.ScriptFault.{ScriptFault}
use Rattle.offset_script.specs.declared.faults.ScriptFault.TheVariants as script_fault
use Rattle.offset_script.specs.declared.faults.RunFault.{RunFault}
use Rattle.offset_script.specs.declared.faults.RunFault.TheVariants.{Script, Memory, Read, Write}
use Rattle.offset_script.specs.declared.scripts.Script as program
use Rattle.offset_script.specs.Grammar.{Plan, meaning_of, line_end, text_of}
use Rattle.offset_script.specs.Machine as machine
use Rattle.offset_script.specs.Faults.{fault_line, fault_status}
use Rattle.offset_script.specs.Sending.{Pushes, Sends}
use Rattle.offset_script.specs.declared.devices.Sink.{Ghosts as Sink}
use Rattle.offset_script.specs.declared.devices.Source.{Ghosts as Source}

-- the plan of a script (`program.Script` is that of `src/scripts.rt`): plain data, without where it lies in memory
abbrev pub as_plan : program.Script → Plan
as_plan s = record {
  header = record { size = s.size; max_allocs = s.max_allocs; index = s.index };
  commands = s.commands.items;
}

-- what `parse` returned of a text with this meaning: the script or the fault that it means, or `Memory`
abbrev pub IsParsed : Result program.Script ScriptFault → Result Plan ScriptFault → Type 0
IsParsed (Ok script) meaning = meaning ≡ Ok (as_plan script)
IsParsed (Err script_fault.Memory) meaning = Unit {0}
IsParsed (Err f) meaning = meaning ≡ Err f

-- What `read_script` returned and left of a source with this text: a script that the text means, or its fault, with
-- nothing left; for a text that is too long, what follows 1,048,577 bytes is left. On `Memory` and `Read` nothing is
-- said.
abbrev pub IsScriptOf : Result program.Script RunFault → List ℕ → Option (List ℕ) → Type 0
IsScriptOf (Ok script) text left = (left ≡ Some []) × (meaning_of text ≡ Ok (as_plan script))
IsScriptOf (Err (Script script_fault.TooLong)) text left =
    (left ≡ Some (drop 1048577 text)) × (meaning_of text ≡ Err script_fault.TooLong)
IsScriptOf (Err (Script f)) text left = (left ≡ Some []) × (meaning_of text ≡ Err f)
IsScriptOf (Err Memory) text left = Unit {0}
IsScriptOf (Err Read) text left = Unit {0}
IsScriptOf (Err Write) text left = Unit {0}

-- whether the result is that the source failed
abbrev pub is_read_fault : {T : Type 0} → Result T RunFault → Bool
is_read_fault (Ok x) = false
is_read_fault (Err (Script f)) = false
is_read_fault (Err Memory) = false
is_read_fault (Err Read) = true
is_read_fault (Err Write) = false

-- whether the result is that the sink failed
abbrev pub is_write_fault : {T : Type 0} → Result T RunFault → Bool
is_write_fault (Ok x) = false
is_write_fault (Err (Script f)) = false
is_write_fault (Err Memory) = false
is_write_fault (Err Read) = false
is_write_fault (Err Write) = true

-- what was read: the whole text, or its first 1,048,577 bytes
pub record HasText (bytes : List ℕ) (old new : Option (List ℕ)) : Type 0 where
  pub most : length bytes ≤ 1048577
  pub takes : Consumes old new bytes
  pub ends : length bytes < 1048577 → IsAtEnd new

-- the text of all answers of the plain machine to the commands of a plan, from one free block of the header's size
abbrev pub IsTextOfAnswers : Plan → List ℕ → Type 0
IsTextOfAnswers plan text =
    text ≡ text_of (machine.answers plan.commands (machine.start plan.header.size plan.header.max_allocs))

-- the text that was read means a plan, and a rendering of this plan was sent: all of it was appended, or a beginning
pub record SendsText (IsRendering : Plan → List ℕ → Type 0) (read : List ℕ) (whole : Bool) (old new : Option (List ℕ)) : Type 0 where
  pub plan : Plan
  pub text : List ℕ
  pub means : meaning_of read ≡ Ok plan
  pub is : IsRendering plan text
  pub pushes : Pushes whole text old new

-- What a run returned, left of a source with this text, and wrote: on `Ok` all of the rendering of the plan that is meant,
-- on `Write` a beginning of it (all of it, where no push has failed), and else the fault of the text. On `Memory` and
-- `Read` nothing is said.
abbrev pub IsRunOf : (Plan → List ℕ → Type 0) → Result (Unit {0}) RunFault
    → List ℕ → Option (List ℕ) → Option (List ℕ) → Option (List ℕ) → Bool → Type 0
IsRunOf IsRendering (Ok u) text left old new push_has_failed = (left ≡ Some []) × SendsText IsRendering text true old new
IsRunOf IsRendering (Err Write) text left old new push_has_failed =
    (left ≡ Some []) × SendsText IsRendering text (not push_has_failed) old new
IsRunOf IsRendering (Err fault) text left old new push_has_failed = IsScriptOf (Err fault) text left

-- what a run returned, and left of its source and its sink
pub record Runs {S K : Type 0} (IsRendering : Plan → List ℕ → Type 0) (source : Source S) (sink : Sink K)
    (input input_after : S) (output output_after : K) (ended : Result (Unit {0}) RunFault) : Type 0 where
  -- where the text of the source is known
  pub of_text : IfSome (source.left input) (λ text. IsRunOf IsRendering ended text (source.left input_after)
      (sink.held output) (sink.held output_after) (sink.push_has_failed output_after))
  -- after `Ok` the sink is flushed, if it says so
  pub flushed : OnOk ended (sink.is_flushed output_after ≡ true)
  -- after `Script`, `Memory` and `Read` the sink is as it was
  pub untouched : IfErr ended (λ fault. fault ≢ Write → output_after ≡ output)
  -- out of memory is `Memory`, and never `Script(Memory)`
  pub memory : ended ≢ Err (Script script_fault.Memory)
  -- it is `Read` exactly where the source failed in this call, if it had not failed before
  pub read : source.has_failed input_after ≡ (is_read_fault ended || source.has_failed input)
  -- it is `Write` exactly where the sink failed in this call, if it had not failed before
  pub write : sink.has_failed output_after ≡ (is_write_fault ended || sink.has_failed output)

-- a run ended somehow, and a program with it: after `Ok` its status is 0, and its errors are as they were; else it is
-- that of the fault, and the line of the fault was sent to the errors
pub record Exits {S K E : Type 0} (IsRendering : Plan → List ℕ → Type 0) (source : Source S) (sink : Sink K) (error_sink : Sink E)
    (input input_after : S) (output output_after : K) (errors errors_after : E) (status : ℕ) : Type 0 where
  pub ended : Result (Unit {0}) RunFault
  pub runs : Runs IsRendering source sink input input_after output output_after ended
  pub tells : MatchResult ended (λ _. (status ≡ 0) × (errors_after ≡ errors))
      (λ fault. (status ≡ fault_status fault) × ((is_sent : Bool) × Sends (fault_line fault ++ line_end) error_sink errors errors_after is_sent))
