-- The bytes of a state of many heaps: what is written of them, and what is read back.
use Rattle.std.specs.Prelude.{codes, ◌≡◌, ℕ, ◌+◌, ◌-◌, ◌*◌, ◌<◌, ◌≤◌, List, [], ◌∷◌, ◌++◌, Option, None, Some, IfSome, length, map, option_map, take, drop}
use Rattle.offset_guarded.specs.Faults as texts
use Rattle.offset_guarded.specs.Guard.{Guard}
use Rattle.offset_guarded.specs.Numbers.{checksum_from, number_at}
use Rattle.offset_guarded.specs.Numbers as words
use Rattle.offset_guarded.specs.State as guarded
use Rattle.offset_heaps.specs.Heaps.{Heaps, IsFirstLimit, IsFirstSize, IsOfKind, heap_at, numbers, slot}
use Rattle.offset_heaps.specs.declared.limits.Limits.{Limits}
use Rattle.offset_heaps.specs.Maxima.{cell}
use Rattle.offset_heaps.specs.declared.restore.Header.{Header}
use Rattle.offset_heaps.specs.declared.state.StateFaultKind.{StateFaultKind}
use Rattle.offset_heaps.specs.declared.state.StateFaultKind.TheVariants.{Length, Form, Limits as OfLimits, Counts, Checksum, Place, Realm, Size, Heap}

-- the bytes of the heap of a number: those of its state, or none where there is no heap
abbrev pub IsHeapState : Option Guard → List ℕ → Type 0
IsHeapState None bytes = bytes ≡ []
IsHeapState (Some g) bytes = guarded.IsStateOf g bytes

-- the bytes from one place to another are those of a heap
pub record IsHeapAt (o : Option Guard) (from to : ℕ) (bytes : List ℕ) : Type 0 where
  pub order : from ≤ to
  pub within : to ≤ length bytes
  pub state : IsHeapState o (take (to - from) (drop from bytes))

-- the states of all heaps, one behind another: each begins at its place, and ends at the next one
pub record AreStatesOf (slots : List (Option Guard)) (places bytes : List ℕ) : Type 0 where
  pub count : length places ≡ length slots + 1
  pub first : cell 0 places ≡ 0
  pub heaps : (k : ℕ) → k < length slots → IsHeapAt (slot k slots) (cell k places) (cell (k + 1) places) bytes
  pub last : cell (length slots) places ≡ length bytes

-- the number that a state begins with, and the version of the form
abbrev pub state_form : ℕ
state_form = 1397244239

abbrev pub state_version : ℕ
state_version = 3

-- the numbers of many heaps: the form and its version, the six limits, the realm of the heap that was made last, the realm, and the places
abbrev pub heaps_numbers : Heaps → List ℕ → List ℕ
heaps_numbers hs places =
    state_form ∷ state_version ∷ hs.limits.size ∷ hs.limits.first_size ∷ hs.limits.max_allocs ∷ hs.limits.first_allocs ∷ hs.limits.most ∷ hs.limits.most_larger ∷ hs.made ∷ hs.realm ∷ places

-- the bytes of a state of many heaps
pub record IsStateOf (hs : Heaps) (bytes : List ℕ) : Type 0 where
  pub places : List ℕ
  pub count : length hs.slots ≡ numbers hs
  -- they begin with the numbers of many heaps, and their checksum
  pub long : 96 + 8 * length hs.slots ≤ length bytes
  pub head : words.numbers (12 + length hs.slots) bytes ≡ heaps_numbers hs places ++ checksum_from 0 (heaps_numbers hs places) ∷ []
  -- what is behind these are the states of the heaps
  pub heaps : AreStatesOf hs.slots places (drop (96 + 8 * length hs.slots) bytes)

-- a heap of which no access was counted
abbrev pub quiet : Option Guard → Option Guard
quiet o = option_map (λ (g : Guard). record g { space = record g.space { accesses = 0 } }) o

-- the same heaps, of which no access was counted
abbrev pub uncounted : Heaps → Heaps
uncounted hs = record hs { slots = map quiet hs.slots; accesses = 0 }

-- all is as it was, and no access is counted
abbrev pub IsCopy : Heaps → Heaps → Type 0
IsCopy hs ks = ks ≡ uncounted hs

-- nothing differs but the counts of accesses
abbrev pub SameHeaps : Heaps → Heaps → Type 0
SameHeaps hs ks = uncounted ks ≡ uncounted hs

-- what is true of the heap of a number, where this is the realm of the heap that was made last
abbrev pub IsHeapFormed : Limits → ℕ → ℕ → Option Guard → Type 0
IsHeapFormed limits made k o = IfSome o (λ g. guarded.IsWellFormed g × (g.realm ≤ made) × IsOfKind limits k g)

-- what is true of many heaps
pub record IsWellFormed (hs : Heaps) : Type 0 where
  pub count : length hs.slots ≡ numbers hs
  pub few : length hs.slots ≤ 4294967295
  pub size : hs.limits.size ≤ 4294967295
  pub first_size : IsFirstSize hs.limits
  pub limit : 4 ≤ hs.limits.max_allocs
  pub first : IsFirstLimit hs.limits
  pub made : hs.made ≤ 4294967295
  pub realm : hs.realm ≤ 4294967295
  -- each heap is well formed and of the kind of its number, and a later one has another realm
  pub heaps : (k : ℕ) → IsHeapFormed hs.limits hs.made k (heap_at k hs)

-- the node limit of a heap is one of the index type, and the caller's
abbrev pub IsHeapAdmitted : ℕ → ℕ → Option Guard → Type 0
IsHeapAdmitted max most_allocs o = IfSome o (λ g. (g.space.max_allocs + 1 < max) × (g.space.max_allocs ≤ most_allocs))

-- the node limits and the number of numbers are admitted
pub record IsAdmitted (max most_heaps most_allocs : ℕ) (hs : Heaps) : Type 0 where
  pub few : numbers hs ≤ most_heaps
  pub limit : (hs.limits.max_allocs + 1 < max) × (hs.limits.max_allocs ≤ most_allocs)
  pub heaps : (k : ℕ) → IsHeapAdmitted max most_allocs (heap_at k hs)

-- heaps that were read: of these bytes, admitted, and no access counted
pub record IsRestored (bytes : List ℕ) (max most_heaps most_allocs : ℕ) (hs : Heaps) : Type 0 where
  pub state : IsStateOf hs bytes
  pub admitted : IsAdmitted max most_heaps most_allocs hs
  pub rests : uncounted hs ≡ hs

-- no heaps that are admitted have these bytes
abbrev pub IsNoState : ℕ → ℕ → ℕ → List ℕ → Type 0
IsNoState max most_heaps most_allocs bytes = (hs : Heaps) → IsWellFormed hs → IsAdmitted max most_heaps most_allocs hs → IsStateOf hs bytes → ⊥

-- what the numbers before the places say, where all numbers of many heaps are there, and their checksum is right
pub record IsHeader (max most_heaps most_allocs : ℕ) (bytes : List ℕ) (h : Header) : Type 0 where
  pub long : 96 + 8 * (h.limits.most + h.limits.most_larger) ≤ length bytes
  pub form : number_at bytes 0 ≡ state_form
  pub version : number_at bytes 1 ≡ state_version
  pub size : number_at bytes 2 ≡ h.limits.size
  pub first_size : number_at bytes 3 ≡ h.limits.first_size
  pub limit : number_at bytes 4 ≡ h.limits.max_allocs
  pub first : number_at bytes 5 ≡ h.limits.first_allocs
  pub most : number_at bytes 6 ≡ h.limits.most
  pub larger : number_at bytes 7 ≡ h.limits.most_larger
  pub made : number_at bytes 8 ≡ h.made
  pub realm : number_at bytes 9 ≡ h.realm
  pub sum : number_at bytes (11 + (h.limits.most + h.limits.most_larger)) ≡ checksum_from 0 (words.numbers (11 + (h.limits.most + h.limits.most_larger)) bytes)
  pub limit_first : IsFirstLimit h.limits
  pub size_first : IsFirstSize h.limits
  pub limit_min : 4 ≤ h.limits.max_allocs
  pub limit_max : (h.limits.max_allocs + 1 < max) × (h.limits.max_allocs ≤ most_allocs)
  pub few : h.limits.most + h.limits.most_larger ≤ most_heaps
  pub fits : (h.limits.size ≤ 4294967295) × (h.made ≤ 4294967295) × (h.realm ≤ 4294967295)

-- the heap of a number that was read of these bytes
pub record IsHeapRead (limits : Limits) (max made most_allocs k : ℕ) (bytes : List ℕ) (o : Option Guard) : Type 0 where
  pub state : IsHeapState o bytes
  pub formed : IsHeapFormed limits made k o
  pub admitted : IsHeapAdmitted max most_allocs o
  pub rests : quiet o ≡ o

-- the same, of the bytes from one place to another
pub record IsHeapReadAt (limits : Limits) (max made most_allocs k from to : ℕ) (bytes : List ℕ) (o : Option Guard) : Type 0 where
  pub state : IsHeapAt o from to bytes
  pub formed : IsHeapFormed limits made k o
  pub admitted : IsHeapAdmitted max most_allocs o
  pub rests : quiet o ≡ o

-- all heaps that were read: the place of each is one of the numbers
pub record AreRead (limits : Limits) (max made most_allocs count : ℕ) (bytes states : List ℕ) (slots : List (Option Guard)) : Type 0 where
  pub many : length slots ≡ count
  pub heaps : (k : ℕ) → k < count → IsHeapReadAt limits max made most_allocs k (number_at bytes (10 + k)) (number_at bytes (11 + k)) states (slot k slots)

-- no heaps have these bytes
abbrev pub AreNone : Limits → ℕ → ℕ → ℕ → ℕ → List ℕ → List ℕ → Type 0
AreNone limits max made most_allocs count bytes states = (slots : List (Option Guard)) → length slots ≡ count
    → ((k : ℕ) → k < count → IsHeapAt (slot k slots) (number_at bytes (10 + k)) (number_at bytes (11 + k)) states)
    → ((k : ℕ) → IsHeapFormed limits made k (slot k slots)) → ((k : ℕ) → IsHeapAdmitted max most_allocs (slot k slots)) → ⊥

-- the texts of what is wrong with the bytes of a state
abbrev pub fault_words : StateFaultKind → List ℕ
fault_words Length = codes "fewer bytes than the counts say"
fault_words Form = codes "no state of many heaps, or one of another version"
fault_words OfLimits = codes "limits that are not admitted"
fault_words Counts = codes "a realm or a count of more than 32 bits"
fault_words Checksum = codes "a checksum that is not that of the numbers"
fault_words Place = codes "the place of a heap that is not behind the one before it, or not in the bytes"
fault_words Realm = codes "the realm of a heap that was not made"
fault_words Size = codes "a heap with fewer units, or another node limit, than the limits say"
fault_words (Heap kind) = texts.fault_words kind
