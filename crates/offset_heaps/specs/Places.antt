-- What contracts see of a place, and the tickets of its grant.
use Rattle.std.specs.Prelude.{ℕ}
use Rattle.offset_guarded.specs.Guard.{Ticket}

-- what contracts see of a place
pub record Place : Type 0 where
  -- the number of its heap
  pub heap : ℕ
  -- the realm of the heaps
  pub realm : ℕ
  -- the name and the serial of its grant in its heap
  pub name : ℕ
  pub serial : ℕ
  -- the realm of its heap
  pub heap_realm : ℕ

-- the ticket that it has in its heap, with this offset
abbrev pub ticket_from : ℕ → Place → Ticket
ticket_from offset p = record { offset = offset; name = p.name; serial = p.serial; realm = p.heap_realm }

-- the same, for what does not look at the offset: whether it is live, and its range
abbrev pub ticket_of : Place → Ticket
ticket_of p = ticket_from 0 p

-- the place of a ticket in the heap of a number
abbrev pub place_of : ℕ → ℕ → Ticket → Place
place_of heap realm t = record { heap = heap; realm = realm; name = t.name; serial = t.serial; heap_realm = t.realm }
