-- What sending a text does to a sink.
use Rattle.std.specs.Prelude.{◌≡◌, ℕ, Bool, true, false, not, ◌||◌, List, ◌++◌, Option, IsTrue}
use Rattle.std.specs.Io.KnownBytes.{Appends}
use Rattle.offset_script.specs.declared.devices.Sink.{Ghosts as Sink}

-- what pushing a text did to the bytes that a sink holds: on `true` all of it was appended, on `false` a beginning
abbrev pub Pushes : Bool → List ℕ → Option (List ℕ) → Option (List ℕ) → Type 0
Pushes true text old new = Appends old new text
Pushes false text old new = (front : List ℕ) × (back : List ℕ) × (text ≡ front ++ back) × Appends old new front

-- what sending a text did to a sink, and returned: whether all of it was appended, and flushed
pub record Sends {K : Type 0} (text : List ℕ) (sink : Sink K) (old new : K) (result : Bool) : Type 0 where
  -- all of it is appended, or a beginning: all of it, where no push has failed
  pub sent : Pushes (result || not (sink.push_has_failed new)) text (sink.held old) (sink.held new)
  -- the result is `false` exactly where the sink failed in this call, if it had not failed before
  pub failed : sink.has_failed new ≡ (not result || sink.has_failed old)
  -- after `true` the sink is flushed
  pub flushed : IsTrue result → sink.is_flushed new ≡ true
