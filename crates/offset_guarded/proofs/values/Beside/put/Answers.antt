use Rattle.std.proofs.Common.{◌+◌, ◌≤◌, Result, Ok, Err, arith, refl, subst}
use Rattle.std.specs.Prelude.{OnOk}
use Rattle.offset_allocator.specs.View.{IsWellFormed}
use Rattle.offset_guarded.proofs.Guards.{live_name, name_below}
use Rattle.offset_guarded.proofs.values.Beside.put.Goals as goal

-- what holds in any case
on_ok : {X E : Type 0} (P : Type 0) (r : Result X E) → P → OnOk r P
on_ok P (Ok x) p = p
on_ok P (Err e) p = tt

pub returns-clause-few : goal.returns-clause-few
returns-clause-few g c =
    let formed = subst IsWellFormed c.allocator.ensures c.is_well_formed.ensures in
    let below = name_below c.args.ticket.name c.args.space.now.space formed (live_name c.args.ticket c.args.space.now (c.if-not-is_live.ensures.0 refl)) in
    on_ok (c.args.ticket.name + 1 ≤ c.args.space.now.space.max_allocs) c.put_at.result (omega (arith, below))
