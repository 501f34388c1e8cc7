-- The bytes of a state with tickets: what is written of a guarded allocator, and what is read back.
use Rattle.std.specs.Prelude.{◌≡◌, ℕ, ◌+◌, ◌*◌, ◌<◌, ◌≤◌, List, [], ◌∷◌, ◌++◌, length, drop}
use Rattle.offset_allocator.specs.View as view
use Rattle.offset_allocator.specs.Ranges as named
use Rattle.offset_allocator.specs.Saving.State as allocator
use Rattle.offset_guarded.specs.Guard.{Guard, serial_of}
use Rattle.offset_guarded.specs.Numbers.{checksum_from, number_at, numbers}
use Rattle.offset_guarded.specs.declared.restore.Header.{Header}

-- the number that a state begins with, and the version of the form
abbrev pub state_form : ℕ
state_form = 1263812943

abbrev pub state_version : ℕ
state_version = 2

-- the numbers of tickets: the form and its version, how many serials are stored, how many were given, the realm, the
-- step, and the serials by name
abbrev pub ticket_numbers : Guard → List ℕ
ticket_numbers g = state_form ∷ state_version ∷ length g.serials ∷ g.given ∷ g.realm ∷ g.step ∷ g.serials

-- the bytes of a state of a guarded allocator
pub record IsStateOf (g : Guard) (bytes : List ℕ) : Type 0 where
  -- they begin with the numbers of tickets, and their checksum
  pub tickets : numbers (7 + length g.serials) bytes ≡ ticket_numbers g ++ checksum_from 0 (ticket_numbers g) ∷ []
  -- what is behind these is a state of the space
  pub space : allocator.IsStateOf g.space (drop (56 + 8 * length g.serials) bytes)

-- the numbers before the serials, where all numbers of tickets are there, and their checksum is right
pub record IsHeader (bytes : List ℕ) (h : Header) : Type 0 where
  pub long : 56 + 8 * h.count ≤ length bytes
  pub form : number_at bytes 0 ≡ state_form
  pub version : number_at bytes 1 ≡ state_version
  pub count : number_at bytes 2 ≡ h.count
  pub given : number_at bytes 3 ≡ h.given
  pub realm : number_at bytes 4 ≡ h.realm
  pub step : number_at bytes 5 ≡ h.step
  pub fits : (h.realm ≤ 4294967295) × (h.step ≤ 4294967295)
  pub sum : checksum_from 0 (numbers (6 + h.count) bytes) ≡ number_at bytes (6 + h.count)

-- a guarded allocator that was read: of these bytes, with a node limit that was admitted, and no access counted
abbrev pub IsRestored : List ℕ → ℕ → Guard → Type 0
IsRestored bytes most g = IsStateOf g bytes × (g.space.accesses ≡ 0) × (g.space.max_allocs ≤ most)

-- what is true of each guarded allocator
pub record IsWellFormed (g : Guard) : Type 0 where
  pub space : view.IsWellFormed g.space
  pub names : view.AreNames g.space
  -- each live name has a serial
  pub live : (x : ℕ) → named.IsLive x g.space → 1 ≤ serial_of x g
  -- and no serial is above the number of grants: so no later grant has one of them
  pub given : (x : ℕ) → serial_of x g ≤ g.given
  pub realm : g.realm ≤ 4294967295
  pub step : g.step ≤ 4294967295

-- no guarded allocator whose node limit is admitted has these bytes
abbrev pub IsNoState : ℕ → ℕ → List ℕ → Type 0
IsNoState max most bytes = (g : Guard) → IsWellFormed g → g.space.max_allocs + 1 < max → g.space.max_allocs ≤ most → IsStateOf g bytes → ⊥

-- nothing differs but the count of accesses
abbrev pub SameGuard : Guard → Guard → Type 0
SameGuard g h = h ≡ record g { space = record g.space { accesses = h.space.accesses } }
