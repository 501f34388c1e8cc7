-- Spaces with tickets of which every later call returns the same.
use Rattle.std.specs.Prelude.{◌≡◌, ℕ}
use Rattle.offset_allocator.specs.Ranges as named
use Rattle.offset_allocator.specs.Relations.{SameState}
use Rattle.offset_guarded.specs.Guard.{Guard, serial_of}

-- their spaces are in the same state, each live name has the same serial, and both have the same step
pub record IsTwin (g h : Guard) : Type 0 where
  pub space : SameState g.space h.space
  pub serials : (x : ℕ) → named.IsLive x g.space → serial_of x h ≡ serial_of x g
  pub given : h.given ≡ g.given
  pub realm : h.realm ≡ g.realm
  pub step : h.step ≡ g.step
