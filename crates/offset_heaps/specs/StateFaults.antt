-- What is wrong with the bytes of a state of many heaps, and where.
use Rattle.std.specs.Prelude.{◌≡◌, ℕ, ◌+◌, ◌-◌, ◌*◌, ◌<◌, ◌≤◌, ◌⊎◌, List, Option, Some, drop, length, min, take}
use Rattle.offset_guarded.specs.Guard.{Guard}
use Rattle.offset_guarded.specs.State as guarded
use Rattle.offset_guarded.specs.Numbers.{checksum_from, number_at, numbers}
use Rattle.offset_guarded.specs.StateFaults as tickets
use Rattle.offset_heaps.specs.Heaps.{IsOfKind}
use Rattle.offset_heaps.specs.State.{IsHeader, IsHeapAdmitted, IsHeapReadAt, state_form, state_version}
use Rattle.offset_heaps.specs.declared.limits.Limits.{Limits}
use Rattle.offset_heaps.specs.declared.restore.Header.{Header}
use Rattle.offset_heaps.specs.declared.state.StateFault.{StateFault}
use Rattle.offset_heaps.specs.declared.state.StateFaultKind.{StateFaultKind}
use Rattle.offset_heaps.specs.declared.state.StateFaultKind.TheVariants.{Length, Form, Limits as OfLimits, Counts, Checksum, Place, Realm, Size, Heap}

-- they begin as a state of many heaps does
abbrev pub HasForm : List ℕ → Type 0
HasForm bytes = (96 ≤ length bytes) × (number_at bytes 0 ≡ state_form) × (number_at bytes 1 ≡ state_version)

-- the size has 32 bits
abbrev pub HasSize : List ℕ → Type 0
HasSize bytes = number_at bytes 2 ≤ 4294967295

-- the size that usual heaps begin with is at most that, and at least 1 unless that is 0
abbrev pub HasFirstSize : List ℕ → Type 0
HasFirstSize bytes = (min 1 (number_at bytes 2) ≤ number_at bytes 3) × (number_at bytes 3 ≤ number_at bytes 2)

-- the node limit is admitted
abbrev pub HasLimit : ℕ → ℕ → List ℕ → Type 0
HasLimit max most_allocs bytes = (4 ≤ number_at bytes 4) × (number_at bytes 4 + 1 < max) × (number_at bytes 4 ≤ most_allocs)

-- the node limit that a usual heap begins with is that one, or at least 8 and no larger
abbrev pub HasFirst : List ℕ → Type 0
HasFirst bytes = (min 8 (number_at bytes 4) ≤ number_at bytes 5) × (number_at bytes 5 ≤ number_at bytes 4)

-- so many usual heaps are admitted
abbrev pub HasMost : ℕ → List ℕ → Type 0
HasMost most_heaps bytes = number_at bytes 6 ≤ most_heaps

-- with them so many larger ones
abbrev pub HasLarger : ℕ → List ℕ → Type 0
HasLarger most_heaps bytes = number_at bytes 6 + number_at bytes 7 ≤ most_heaps

-- all limits are admitted
pub record HasLimits (max most_heaps most_allocs : ℕ) (bytes : List ℕ) : Type 0 where
  pub size : HasSize bytes
  pub first_size : HasFirstSize bytes
  pub limit : HasLimit max most_allocs bytes
  pub first : HasFirst bytes
  pub most : HasMost most_heaps bytes
  pub larger : HasLarger most_heaps bytes

-- the realm of the heap that was made last has 32 bits
abbrev pub HasMade : List ℕ → Type 0
HasMade bytes = number_at bytes 8 ≤ 4294967295

-- the realm has 32 bits
abbrev pub HasRealm : List ℕ → Type 0
HasRealm bytes = number_at bytes 9 ≤ 4294967295

-- all numbers of many heaps are there
abbrev pub HasLength : List ℕ → Type 0
HasLength bytes = 96 + 8 * (number_at bytes 6 + number_at bytes 7) ≤ length bytes

-- their checksum is behind them
abbrev pub HasChecksum : List ℕ → Type 0
HasChecksum bytes =
    checksum_from 0 (numbers (11 + (number_at bytes 6 + number_at bytes 7)) bytes) ≡ number_at bytes (11 + (number_at bytes 6 + number_at bytes 7))

-- what a fault of the numbers says, by its kind: the first of these that does not hold, and its place
abbrev pub IsNumbersFault : ℕ → ℕ → ℕ → List ℕ → ℕ → StateFaultKind → Type 0
IsNumbersFault max most_heaps most_allocs bytes at Length = (at ≡ length bytes) × ((length bytes < 96)
    ⊎ (HasForm bytes × HasLimits max most_heaps most_allocs bytes × HasMade bytes × HasRealm bytes × (HasLength bytes → ⊥)))
IsNumbersFault max most_heaps most_allocs bytes at Form = (at ≡ 0) × (96 ≤ length bytes) × (HasForm bytes → ⊥)
IsNumbersFault max most_heaps most_allocs bytes at OfLimits = HasForm bytes × (((at ≡ 16) × (HasSize bytes → ⊥))
    ⊎ ((at ≡ 24) × HasSize bytes × (HasFirstSize bytes → ⊥))
    ⊎ ((at ≡ 32) × HasSize bytes × HasFirstSize bytes × (HasLimit max most_allocs bytes → ⊥))
    ⊎ ((at ≡ 40) × HasSize bytes × HasFirstSize bytes × HasLimit max most_allocs bytes × (HasFirst bytes → ⊥))
    ⊎ ((at ≡ 48) × HasSize bytes × HasFirstSize bytes × HasLimit max most_allocs bytes × HasFirst bytes × (HasMost most_heaps bytes → ⊥))
    ⊎ ((at ≡ 56) × HasSize bytes × HasFirstSize bytes × HasLimit max most_allocs bytes × HasFirst bytes × HasMost most_heaps bytes × (HasLarger most_heaps bytes → ⊥)))
IsNumbersFault max most_heaps most_allocs bytes at Counts = HasForm bytes × HasLimits max most_heaps most_allocs bytes
    × (((at ≡ 64) × (HasMade bytes → ⊥)) ⊎ ((at ≡ 72) × HasMade bytes × (HasRealm bytes → ⊥)))
IsNumbersFault max most_heaps most_allocs bytes at Checksum = (at ≡ 88 + 8 * (number_at bytes 6 + number_at bytes 7)) × HasForm bytes
    × HasLimits max most_heaps most_allocs bytes × HasMade bytes × HasRealm bytes × HasLength bytes × (HasChecksum bytes → ⊥)
IsNumbersFault max most_heaps most_allocs bytes at kind = ⊥

-- the state of the first heap begins at 0, and that of the last one ends where the bytes do
abbrev pub HasStart : List ℕ → Type 0
HasStart bytes = number_at bytes 10 ≡ 0

abbrev pub HasEnd : ℕ → List ℕ → List ℕ → Type 0
HasEnd count bytes states = number_at bytes (10 + count) ≡ length states

-- what a fault of these says
abbrev pub IsEndsFault : ℕ → List ℕ → List ℕ → ℕ → StateFaultKind → Type 0
IsEndsFault count bytes states at kind = (kind ≡ Place)
    × (((at ≡ 80) × (HasStart bytes → ⊥)) ⊎ ((at ≡ 80 + 8 * count) × HasStart bytes × (HasEnd count bytes states → ⊥)))

-- the state of the heap of a number ends behind its start, within the bytes
abbrev pub IsPlaced : ℕ → List ℕ → List ℕ → Type 0
IsPlaced k bytes states = (number_at bytes (10 + k) ≤ number_at bytes (11 + k)) × (number_at bytes (11 + k) ≤ length states)

-- bytes are those of a heap that is admitted
pub record IsOfHeap (max most_allocs : ℕ) (bytes : List ℕ) (g : Guard) : Type 0 where
  pub state : guarded.IsStateOf g bytes
  pub formed : guarded.IsWellFormed g
  pub admitted : IsHeapAdmitted max most_allocs (Some g)

-- what a fault of the bytes of one heap says, by its kind: as tickets say, where they are none of a heap; else its realm
-- was not made; else it is not of the kind of its number. The place counts from the first of them
abbrev pub IsHeapFault : Limits → ℕ → ℕ → ℕ → ℕ → List ℕ → ℕ → StateFaultKind → Type 0
IsHeapFault limits max made most_allocs k bytes at (Heap kind) = (1 ≤ length bytes) × tickets.IsFault max most_allocs bytes (record { at = at; kind = kind })
IsHeapFault limits max made most_allocs k bytes at Realm = (at ≡ 32) × ((g : Guard) × IsOfHeap max most_allocs bytes g × (made < g.realm))
IsHeapFault limits max made most_allocs k bytes at Size = (at ≡ 0) × ((g : Guard) × IsOfHeap max most_allocs bytes g × (g.realm ≤ made) × (IsOfKind limits k g → ⊥))
IsHeapFault limits max made most_allocs k bytes at kind = ⊥

-- a fault of the heap of a number: of the place where its state ends, or of its bytes, from where they are on
abbrev pub IsFaultAt : Limits → ℕ → ℕ → ℕ → ℕ → ℕ → List ℕ → List ℕ → ℕ → StateFaultKind → Type 0
IsFaultAt limits max made most_allocs count k bytes states at kind = ((kind ≡ Place) × (at ≡ 88 + 8 * k) × (IsPlaced k bytes states → ⊥))
    ⊎ (IsPlaced k bytes states × ((inner : ℕ) × (at ≡ 96 + 8 * count + number_at bytes (10 + k) + inner)
    × IsHeapFault limits max made most_allocs k (take (number_at bytes (11 + k) - number_at bytes (10 + k)) (drop (number_at bytes (10 + k)) states)) inner kind))

-- a fault of the first heap that is wrong: those before it can be read
pub record IsHeapsFault (limits : Limits) (max made most_allocs count : ℕ) (bytes states : List ℕ) (at : ℕ) (kind : StateFaultKind) : Type 0 where
  pub number : ℕ
  pub below : number < count
  pub before : (k : ℕ) → k < number → (o : Option Guard) × IsHeapReadAt limits max made most_allocs k (number_at bytes (10 + k)) (number_at bytes (11 + k)) states o
  pub fault : IsFaultAt limits max made most_allocs count number bytes states at kind

-- what a fault behind numbers that are right says: of the start or the end of all states, and else of a heap
abbrev pub IsStatesFault : Limits → ℕ → ℕ → ℕ → ℕ → List ℕ → List ℕ → ℕ → StateFaultKind → Type 0
IsStatesFault limits max made most_allocs count bytes states at kind = IsEndsFault count bytes states at kind
    ⊎ (HasStart bytes × HasEnd count bytes states × IsHeapsFault limits max made most_allocs count bytes states at kind)

-- what a fault of bytes says: it is one of the numbers; or else, where their header can be read, of the states behind them
abbrev pub IsFault : ℕ → ℕ → ℕ → List ℕ → StateFault → Type 0
IsFault max most_heaps most_allocs bytes f = IsNumbersFault max most_heaps most_allocs bytes f.at f.kind
    ⊎ ((h : Header) × IsHeader max most_heaps most_allocs bytes h × (let count : ℕ = h.limits.most + h.limits.most_larger in
    IsStatesFault h.limits max h.made most_allocs count bytes (drop (96 + 8 * count) bytes) f.at f.kind))
