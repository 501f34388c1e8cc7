use Rattle.offset_heaps.proofs.Rooms.{new_holds}
use Rattle.offset_heaps.proofs.fresh.larger.Goals as goal

pub grant_tight_in-ticket-requires-clause-holds : goal.grant_tight_in-ticket-requires-clause-holds
grant_tight_in-ticket-requires-clause-holds g c = new_holds c.args.size c.in_ok-with_realm.field-0 c.in_ok-with_realm.ensures.space c.in_ok-with_realm.ensures.serials.0
