-- What values beside tickets end as, where a `&mut` to one of them is returned.
use Rattle.std.specs.Prelude.{ℕ, ◌∷◌, [], List, Option}
use Rattle.std.specs.Borrow.{Lends, LendsIf, Fml, RattleType, MutBor}
use Rattle.std.specs.contracts.option.Option.{the_row as option_row}
use denote.Struct.Tuple.{Tuple}
use Rattle.offset_guarded.specs.contracts.ticket.Ticket.{the_row as ticket_row}
use Rattle.offset_guarded.specs.contracts.values.Beside.{the_row as beside_row}
use Rattle.offset_guarded.specs.Guard.{Ticket}
use Rattle.offset_guarded.specs.Values.{revalued, with_value}

module _ (V : RattleType) where
  -- once the borrow r ends, an entry has the last value written through r, and its ticket
  abbrev pub lends_second : MutBor (Option (Ticket × V.Denot)) → MutBor V.Denot → Fml
  lends_second c r = Lends (option_row (Tuple (ticket_row ∷ V ∷ []))) V c r (λ w. revalued w c.now)

  module _ (b : MutBor (List (Option (Ticket × V.Denot)))) where
    -- the ticket of a name has the last value written through r
    abbrev pub lends_named : ℕ → MutBor V.Denot → Fml
    lends_named x r = Lends (beside_row V) V b r (with_value b.now x)

    -- the same where r is a reference, and at `None` all is as it was
    abbrev pub lends_value : Ticket → Option (MutBor V.Denot) → Fml
    lends_value t r = LendsIf (beside_row V) V b r (with_value b.now t.name) b.now
