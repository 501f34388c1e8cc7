-- What an asset pool does with a ticket.
use Rattle.std.specs.Prelude.{◌≡◌, ◌↔◌, ℕ, Option, None, IfSome, IsSome}
use Rattle.offset_allocator.specs.Relations.{Frees}
use Rattle.offset_allocator.specs.Requests.{CanGrant}
use Rattle.offset_guarded.specs.Guard.{Guard, Grants, HasSerialLeft, IsLive, IsSame, Ticket, range_of}

-- the range of a ticket is freed, where it is live; all serials stay
pub record Unloads (t : Ticket) (g h : Guard) : Type 0 where
  pub freed : IsLive t g → Frees t.name g.space h.space
  pub again : range_of t g ≡ None → h ≡ g
  pub serials : h ≡ record g { space = h.space }

-- n units are granted exactly where they can be; otherwise all is as it was
pub record Loads (n : ℕ) (g h : Guard) (result : Option Ticket) : Type 0 where
  pub granted : IsSome result ↔ (HasSerialLeft g × CanGrant 1 n g.space)
  pub grants : IfSome result (Grants n g h)
  pub same : result ≡ None → IsSame g h
