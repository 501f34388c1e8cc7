-- What contracts see of a player that takes calls one by one.
use Rattle.std.specs.Prelude.{ℕ, ◌≤◌, Bool, true, false, ◌⊎◌, List, [], Option, IsTrue}
use Rattle.std.specs.List.{AllByRecursion}
use Rattle.offset_allocator.specs.Relations.{IsFresh}
use Rattle.offset_allocator.specs.View.{View, Handle, IsWellFormed}
use Rattle.offset_script.specs.Steps.{Stays}
use Rattle.offset_calls.specs.declared.calls.Call.{Call}
use Rattle.offset_calls.specs.declared.calls.Call.TheVariants as call
use Rattle.offset_calls.specs.Calls.{Reply, is_valid}
use Rattle.offset_calls.specs.Histories.{Runs}
use Rattle.offset_calls.specs.Steps.{Takes}

-- its allocator, and the handles of the grants so far: that of grant k is at k - 1 while the grant is live
pub record Player : Type 0 where
  pub space : View
  pub handles : List (Option Handle)

-- calls on a fresh space have led to an allocator and the handles of its grants
pub record IsReached (v : View) (handles : List (Option Handle)) : Type 0 where
  pub size : ℕ
  pub limit : ℕ
  pub low : 2 ≤ limit
  pub fresh : View
  pub is_fresh : IsFresh size limit fresh
  pub formed : IsWellFormed fresh
  pub calls : List Call
  pub replies : List Reply
  pub valid : AllByRecursion (λ c. IsTrue (is_valid c)) calls
  pub run : Runs fresh [] calls replies v handles

-- whether a call slides ranges
abbrev pub slides : Call → Bool
slides call.Compact = true
slides (call.CompactBy n) = true
slides (call.CompactWithin n from u r) = true
slides (call.MakeRoom n) = true
slides (call.MakeRoomBy n align m) = true
slides other = false

-- what a call leaves for which memory was refused: all is as it was, or ranges were slid, and the reply is lost
abbrev pub IsLost : Call → View → List (Option Handle) → View → List (Option Handle) → Type 0
IsLost c v handles w kept = Stays v handles w kept ⊎ (IsTrue (slides c) × (r : Reply) × Takes c v handles w kept r)
