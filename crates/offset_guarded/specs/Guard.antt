-- What contracts see of a guarded allocator: which tickets are live, and what a call leaves of them.
use Rattle.std.specs.Prelude.{codes, ◌≡◌, ℕ, ◌+◌, ◌-◌, ◌<◌, ◌≤◌, Bool, ◌&&◌, List, ◌++◌, length, replicate, Option, Some, None, IsSome, is_some, nat_eq, slice_index_or, slice_set, if◌then◌else◌, option_map, MatchOption}
use Rattle.std.specs.Int.{◌∣◌}
use Rattle.offset_allocator.specs.View.{View, Handle}
use Rattle.offset_allocator.specs.Ranges.{Range}
use Rattle.offset_allocator.specs.Ranges as named
use Rattle.offset_allocator.specs.Relations.{SameState}
use Rattle.offset_allocator.specs.Requests as allocator
use Rattle.offset_allocator.specs.Tight as tight
use Rattle.offset_guarded.specs.declared.refusal.Refusal.{Refusal}
use Rattle.offset_guarded.specs.declared.refusal.Refusal.TheVariants.{Serials, Nodes, TooLarge, Space, Fragmented}
use Rattle.offset_allocator.specs.declared.reports.Refusal.{Refusal as OfSpace}
use Rattle.offset_allocator.specs.declared.reports.Refusal.TheVariants as why

-- the last serial: the largest number of 64 bits
abbrev pub last_serial : ℕ
last_serial = 18446744073709551615

-- what contracts see of a ticket
pub record Ticket : Type 0 where
  -- where the range began when the ticket was made
  pub offset : ℕ
  pub name : ℕ
  pub serial : ℕ
  pub realm : ℕ

-- the serials by name; how many are given; and for how many names there is memory
pub record Table : Type 0 where
  pub cells : List ℕ
  pub given : ℕ
  pub room : ℕ

-- what contracts see of a guarded allocator
pub record Guard : Type 0 where
  -- the allocator
  pub space : View
  -- the serial that each name was last granted with, 0 before its first grant
  pub serials : List ℕ
  -- the grants so far: their serials are 1, 2, ..
  pub given : ℕ
  pub realm : ℕ
  -- the least common multiple of the alignments of the grants so far, or 0 where it has more than 32 bits; 1 at first and
  -- after a reset
  pub step : ℕ

-- the serial in the cell of a name
abbrev pub cell : ℕ → List ℕ → ℕ
cell x cells = slice_index_or cells x 0

-- the serial that a name was last granted with
abbrev pub serial_of : ℕ → Guard → ℕ
serial_of x g = cell x g.serials

-- the cells with one for each of n names at least: 0 in those that are added
abbrev pub covering : ℕ → List ℕ → List ℕ
covering n cells = cells ++ replicate (n - length cells) 0

-- how many nodes of a space were made
abbrev pub nodes : View → ℕ
nodes v = length v.blocks + length v.unused

-- no serial is given, and each node that was made has a cell
abbrev pub CoversNodes : Guard → Guard → Type 0
CoversNodes g h = h ≡ record g { space = h.space; serials = covering (nodes h.space) g.serials }

-- whether a ticket has the realm, and the serial that its name was last granted with
abbrev pub fits : Ticket → Guard → Bool
fits t g = nat_eq t.realm g.realm && nat_eq t.serial (serial_of t.name g)

-- the range of a ticket: that of its name, where the ticket fits
abbrev pub range_of : Ticket → Guard → Option Range
range_of t g = if fits t g then named.range_of t.name g.space else None

-- a ticket is live while it has a range
abbrev pub IsLive : Ticket → Guard → Type 0
IsLive t g = IsSome (range_of t g)

-- every ticket has the range that it had
abbrev pub KeepsAll : Guard → Guard → Type 0
KeepsAll g h = (t : Ticket) → range_of t h ≡ range_of t g

-- two tickets have one name, serial and realm: so they are tickets of one grant, whatever their offsets
abbrev pub AreAlike : Ticket → Ticket → Type 0
AreAlike t u = (t.name ≡ u.name) × (t.serial ≡ u.serial) × (t.realm ≡ u.realm)

-- every other ticket has the range that it had
abbrev pub KeepsOthers : Ticket → Guard → Guard → Type 0
KeepsOthers t g h = (u : Ticket) → (AreAlike u t → ⊥) → range_of u h ≡ range_of u g

-- a ticket is live exactly if it was
abbrev pub KeepsLive : Guard → Guard → Type 0
KeepsLive g h = (t : Ticket) → is_some (range_of t h) ≡ is_some (range_of t g)

-- every ticket has as many units as it had, and no other is live
abbrev pub KeepsSizes : Guard → Guard → Type 0
KeepsSizes g h = (t : Ticket) → option_map (λ (r : Range). r.size) (range_of t h)
    ≡ option_map (λ (r : Range). r.size) (range_of t g)

-- a ticket that is live before and after keeps each alignment of its range that divides s
abbrev pub KeepsDivisors : ℕ → Guard → Guard → Type 0
KeepsDivisors s g h = (t : Ticket) (r q : Range) (a : ℕ) → range_of t g ≡ Some r → range_of t h ≡ Some q → a ∣ s → a ∣ r.offset → a ∣ q.offset

-- a ticket that is live before and after keeps each alignment of its range that divides the step, and that divides the
-- step after it too
abbrev pub KeepsAlignments : Guard → Guard → Type 0
KeepsAlignments g h = (t : Ticket) (r q : Range) (a : ℕ) → range_of t g ≡ Some r → range_of t h ≡ Some q → a ∣ g.step → a ∣ r.offset
    → (a ∣ h.step) × (a ∣ q.offset)

-- a ticket has n units after the call, from the same offset on
abbrev pub HasUnits : Ticket → ℕ → Guard → Guard → Type 0
HasUnits t n g h = (r : Range) → range_of t g ≡ Some r → range_of t h ≡ Some (record r { size = n })

-- no name has another serial, none is given, and the step is as it was
pub record KeepsSerials (g h : Guard) : Type 0 where
  pub cells : (x : ℕ) → serial_of x h ≡ serial_of x g
  pub given : h.given ≡ g.given
  pub realm : h.realm ≡ g.realm
  pub step : h.step ≡ g.step

-- all is as it was, however many accesses are counted
abbrev pub IsSame : Guard → Guard → Type 0
IsSame g h = SameState g.space h.space × KeepsSerials g h

-- the same, of a space that has counted no access
abbrev pub IsCopy : Guard → Guard → Type 0
IsCopy g h = h ≡ record g { space = record g.space { accesses = 0 } }

-- the same under this node limit, of a space that has counted no access
abbrev pub IsRaised : ℕ → Guard → Guard → Type 0
IsRaised limit g h = h ≡ record g { space = record g.space { max_allocs = limit; accesses = 0 } }

-- the handle of a ticket
abbrev pub handle_in : Ticket → Handle
handle_in t = record { name = t.name; offset = t.offset }

-- the ticket that a handle has now
abbrev pub ticket_at : Handle → Guard → Ticket
ticket_at h g = record { offset = h.offset; name = h.name; serial = serial_of h.name g; realm = g.realm }

-- a serial is left for one more grant
abbrev pub HasSerialLeft : Guard → Type 0
HasSerialLeft g = g.given < last_serial

-- what a grant of n units is
pub record Grants (n : ℕ) (g h : Guard) (t : Ticket) : Type 0 where
  -- its serial is the next one, so no earlier grant has it
  pub serial : t.serial ≡ g.given + 1
  pub given : h.given ≡ t.serial
  pub realm : (t.realm ≡ g.realm) × (h.realm ≡ g.realm)
  -- it is in the cell of the name, and no other cell changes
  pub serials : h.serials ≡ slice_set (covering (nodes h.space) g.serials) t.name t.serial
  -- its ticket was not live, and now has exactly n units, from the offset on
  pub not_live : range_of t g ≡ None
  pub range : range_of t h ≡ Some (record { offset = t.offset; size = n })
  -- these lie in the space, and share no unit with a range that is live
  pub space : named.Grants n g.space h.space (handle_in t)
  -- every other ticket has the range that it had
  pub others : KeepsOthers t g h

-- the reason of the allocator, where a reason is one
abbrev pub of_space : Refusal → Option OfSpace
of_space Serials = None
of_space Nodes = Some why.Nodes
of_space TooLarge = Some why.TooLarge
of_space Space = Some why.Space
of_space Fragmented = Some why.Fragmented

-- and a reason of the allocator as one here
abbrev pub for_space : OfSpace → Refusal
for_space why.Nodes = Nodes
for_space why.TooLarge = TooLarge
for_space why.Space = Space
for_space why.Fragmented = Fragmented

-- why a request that may add these blocks and takes these units is refused
abbrev pub IsWhy : ℕ → ℕ → Guard → Refusal → Type 0
IsWhy blocks units g r = MatchOption (of_space r) (g.given ≡ last_serial)
    (λ w. HasSerialLeft g × allocator.IsWhy blocks units g.space w)

-- why a request for any free block that holds it is refused
abbrev pub IsWhyTight : ℕ → ℕ → Guard → Refusal → Type 0
IsWhyTight n align g r = MatchOption (of_space r) (g.given ≡ last_serial)
    (λ w. HasSerialLeft g × tight.IsWhyTight n align g.space w)

-- the text of a reason
abbrev pub refusal_words : Refusal → List ℕ
refusal_words r = words_of (of_space r) where
  words_of : Option OfSpace → List ℕ
  words_of None = codes "all serials are given"
  words_of (Some w) = allocator.refusal_words w

-- what is true of the fields between two calls
pub record IsGuarded (max : ℕ) (space : View) (t : Table) : Type 0 where
  -- each live name has a serial
  pub live : (x : ℕ) → named.IsLive x space → 1 ≤ cell x t.cells
  -- and no serial is above those given
  pub given : (x : ℕ) → cell x t.cells ≤ t.given
  pub memory : space.max_allocs ≤ t.room
  pub admitted : space.max_allocs < max
