use Rattle.std.proofs.Common.{sym, ap, subst, rules}
use Rattle.offset_allocator.specs.Classes.{up, value}
use Rattle.offset_allocator.specs.Requests.{blocks_needed, units_needed}
use Rattle.offset_allocator.specs.Moving.RoomBySteps.{IsLeastCostBy, names_short}
use Rattle.offset_guarded.specs.Guard.{Guard, KeepsDivisors}
use Rattle.offset_guarded.proofs.{Guards.guard, Offsets.kept_divisors, Offsets.room_made}
use Rattle.offset_guarded.proofs.GuardedOf.make_room_by.Goals as goal

pub returns : goal.returns
returns g c =
    let now : Guard = guard c.make_room_by-cost.new.self c.self.inside.serials c.self.inside.realm c.self.inside.step in
    record {
      cost = subst (λ (k : Guard). IsLeastCostBy c.args.step (value (up (units_needed c.args.size c.args.align))) (names_short (blocks_needed c.args.align) k.space) k.space.blocks c.make_room_by-cost.result)
          c.self.view_is c.make_room_by-cost.ensures.cost;
      sizes = search rules;
      divisors = subst (λ (k : Guard). KeepsDivisors c.args.step k now) c.self.view_is
          (kept_divisors c.args.step (guard c.self.inside.space c.self.inside.serials c.self.inside.realm c.self.inside.step) now c.is_well_formed.ensures c.is_well_formed-2.ensures
          (room_made _ c.args.step _ _ c.self.inside.space c.make_room_by-cost.new.self _ _ c.make_room_by-cost.result c.make_room_by-cost.ensures.step));
      granted = search rules;
      step = rw (ap (λ (g : Guard). g.space) (sym c.self.view_is)) c.make_room_by-cost.ensures.step;
      serials = search rules;
      accesses_max = search rules;
    }
