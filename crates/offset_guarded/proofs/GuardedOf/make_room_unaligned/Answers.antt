use Rattle.std.proofs.Common.{sym, ap, subst, rules}
use Rattle.offset_allocator.specs.Classes.{up, value}
use Rattle.offset_allocator.specs.Moving.Room.{IsLeastCost}
use Rattle.offset_guarded.specs.Guard.{Guard}
use Rattle.offset_guarded.proofs.GuardedOf.make_room_unaligned.Goals as goal

pub returns : goal.returns
returns g c = record {
  cost = subst (λ (k : Guard). IsLeastCost (value (up c.args.size)) k.space.blocks c.make_room.result) c.self.view_is c.make_room.ensures.cost;
  sizes = search rules;
  granted = search rules;
  step = rw (ap (λ (g : Guard). g.space) (sym c.self.view_is)) c.make_room.ensures.step;
  serials = search rules;
  accesses_max = search rules;
}
