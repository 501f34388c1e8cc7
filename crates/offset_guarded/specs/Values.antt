-- Values beside tickets: which ticket has which.
use Rattle.std.specs.Prelude.{ℕ, ◌≡◌, ◌&&◌, List, Option, Some, None, nat_eq, slice_index_or, slice_set, if◌then◌else◌, filter_map, option_map}
use Rattle.offset_guarded.specs.Guard.{Ticket}

module _ {V : Type 0} where
  -- the ticket and the value under a name
  abbrev pub entry : ℕ → List (Option (Ticket × V)) → Option (Ticket × V)
  entry x cells = slice_index_or cells x None

  -- the value of an entry, where it has the serial and the realm of a ticket
  abbrev pub value_for : Ticket → Option (Ticket × V) → Option V
  value_for t None = None
  value_for t (Some e) = if nat_eq e.0.serial t.serial && nat_eq e.0.realm t.realm then Some e.1 else None

  -- the value beside a ticket, whatever its offset
  abbrev pub value_of : Ticket → List (Option (Ticket × V)) → Option V
  value_of t cells = value_for t (entry t.name cells)

  -- the tickets and values, by name
  abbrev pub entries : List (Option (Ticket × V)) → List (Ticket × V)
  entries cells = filter_map (λ c. c) cells

  -- an entry with another value beside its ticket
  abbrev pub revalued : V → Option (Ticket × V) → Option (Ticket × V)
  revalued v = option_map (λ e. (e.0, v))

  -- the cells with another value beside the ticket of a name
  abbrev pub with_value : List (Option (Ticket × V)) → ℕ → V → List (Option (Ticket × V))
  with_value cells x v = slice_set cells x (revalued v (entry x cells))

  -- every entry has its ticket's name
  abbrev pub AreNamed : List (Option (Ticket × V)) → Type 0
  AreNamed cells = (x : ℕ) (e : Ticket × V) → entry x cells ≡ Some e → e.0.name ≡ x

  -- every name has the entry that it had
  abbrev pub SameEntries : List (Option (Ticket × V)) → List (Option (Ticket × V)) → Type 0
  SameEntries cells now = (x : ℕ) → entry x now ≡ entry x cells

  -- every other name has
  abbrev pub KeepsOtherEntries : ℕ → List (Option (Ticket × V)) → List (Option (Ticket × V)) → Type 0
  KeepsOtherEntries x cells now = (y : ℕ) → (y ≡ x → ⊥) → entry y now ≡ entry y cells
