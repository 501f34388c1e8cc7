-- What is wrong with the bytes of a state with tickets, and where.
use Rattle.std.specs.Prelude.{◌≡◌, ℕ, ◌+◌, ◌*◌, ◌<◌, ◌≤◌, ◌⊎◌, List, drop, length, nat_lt, if◌then◌else◌}
use Rattle.offset_allocator.specs.Ranges as named
use Rattle.offset_allocator.specs.Saving.State as space
use Rattle.offset_allocator.specs.Saving.StateFaults as allocator
use Rattle.offset_allocator.specs.View as view
use Rattle.offset_allocator.specs.View.{View}
use Rattle.offset_guarded.specs.Guard.{cell}
use Rattle.offset_guarded.specs.Numbers.{checksum_from, number_at, numbers}
use Rattle.offset_guarded.specs.State.{state_form, state_version}
use Rattle.offset_guarded.specs.declared.state.StateFault.{StateFault}
use Rattle.offset_guarded.specs.declared.state.StateFaultKind.{StateFaultKind}
use Rattle.offset_guarded.specs.declared.state.StateFaultKind.TheVariants.{Length, Form, Realm, Step, Checksum, Serial, Allocator}

-- they begin as a state with tickets does
abbrev pub HasForm : List ℕ → Type 0
HasForm bytes = (56 ≤ length bytes) × (number_at bytes 0 ≡ state_form) × (number_at bytes 1 ≡ state_version)

-- all numbers of tickets are there
abbrev pub HasLength : List ℕ → Type 0
HasLength bytes = 56 + 8 * number_at bytes 2 ≤ length bytes

-- the realm has 32 bits
abbrev pub HasRealm : List ℕ → Type 0
HasRealm bytes = number_at bytes 4 ≤ 4294967295

-- the step has 32 bits
abbrev pub HasStep : List ℕ → Type 0
HasStep bytes = number_at bytes 5 ≤ 4294967295

-- their checksum is behind them
abbrev pub HasChecksum : List ℕ → Type 0
HasChecksum bytes = checksum_from 0 (numbers (6 + number_at bytes 2) bytes) ≡ number_at bytes (6 + number_at bytes 2)

-- all of these hold
pub record IsHeaded (bytes : List ℕ) : Type 0 where
  pub form : HasForm bytes
  pub long : HasLength bytes
  pub realm : HasRealm bytes
  pub step : HasStep bytes
  pub sum : HasChecksum bytes

-- bytes are those of a space that is admitted
pub record IsOfSpace (max most : ℕ) (bytes : List ℕ) (v : View) : Type 0 where
  pub state : space.IsStateOf v bytes
  pub formed : view.IsWellFormed v
  pub names : view.AreNames v
  pub admitted : (v.max_allocs + 1 < max) × (v.max_allocs ≤ most)

-- the first name whose serial is above the number of grants
abbrev pub IsFirstAbove : ℕ → List ℕ → ℕ → Type 0
IsFirstAbove given cells x = (given < cell x cells) × ((y : ℕ) → y < x → cell y cells ≤ given)

-- the first live name that has no serial, where none is above the number of grants
abbrev pub IsFirstWithout : View → ℕ → List ℕ → ℕ → Type 0
IsFirstWithout v given cells x = ((y : ℕ) → cell y cells ≤ given) × named.IsLive x v × (cell x cells ≡ 0) × ((y : ℕ) → y < x → named.IsLive y v → 1 ≤ cell y cells)

-- where the serial of a name is, or the number of serials, where there are too few for the name
abbrev pub serial_place : ℕ → List ℕ → ℕ
serial_place x cells = if nat_lt x (length cells) then 48 + 8 * x else 16

-- what a fault of the serials of a space says
abbrev pub IsSerialFault : View → ℕ → List ℕ → ℕ → Type 0
IsSerialFault v given cells at = (x : ℕ) × (at ≡ serial_place x cells) × (IsFirstAbove given cells x ⊎ IsFirstWithout v given cells x)

-- what a fault says, by its kind: the first of these that does not hold, and its place; where all hold, a fault of the
-- space, whose place counts from the first byte of all; and where these are a space, the first serial that is wrong
abbrev pub IsFaultOf : ℕ → ℕ → List ℕ → ℕ → StateFaultKind → Type 0
IsFaultOf max most bytes at Length = (at ≡ length bytes) × ((length bytes < 56) ⊎ (HasForm bytes × (HasLength bytes → ⊥)))
IsFaultOf max most bytes at Form = (at ≡ 0) × (56 ≤ length bytes) × (HasForm bytes → ⊥)
IsFaultOf max most bytes at Realm = (at ≡ 32) × HasForm bytes × HasLength bytes × (HasRealm bytes → ⊥)
IsFaultOf max most bytes at Step = (at ≡ 40) × HasForm bytes × HasLength bytes × HasRealm bytes × (HasStep bytes → ⊥)
IsFaultOf max most bytes at Checksum = (at ≡ 48 + 8 * number_at bytes 2) × HasForm bytes × HasLength bytes × HasRealm bytes × HasStep bytes × (HasChecksum bytes → ⊥)
IsFaultOf max most bytes at (Allocator kind) =
    IsHeaded bytes × ((inner : ℕ) × (at ≡ 56 + 8 * number_at bytes 2 + inner)
    × allocator.IsFault max most (drop (56 + 8 * number_at bytes 2) bytes) (record { at = inner; kind = kind }))
IsFaultOf max most bytes at Serial =
    IsHeaded bytes × ((v : View) × IsOfSpace max most (drop (56 + 8 * number_at bytes 2) bytes) v
    × IsSerialFault v (number_at bytes 3) (numbers (number_at bytes 2) (drop 48 bytes)) at)

abbrev pub IsFault : ℕ → ℕ → List ℕ → StateFault → Type 0
IsFault max most bytes f = IsFaultOf max most bytes f.at f.kind
