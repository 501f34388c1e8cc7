use Rattle.std.proofs.Common.{IsSome, refl, subst, sym}
use Rattle.offset_allocator.specs.Reporting.Walking as Walking
use Rattle.offset_heaps.specs.Heaps.{heap_at}
use Rattle.offset_heaps.proofs.LivePlaces.{found_of, none_of}
use Rattle.offset_heaps.proofs.HeapsOf.live_after.Goals as goal

pub returns-in-Some-clause-after : goal.returns-in-Some-clause-after
returns-in-Some-clause-after g c live =
    found_of (Walking.live_after c.args.place.name) c.args.place.heap c.args.self.now.realm c.in-Some.guarded.now (heap_at c.args.place.heap c.args.self.now) c.live_after.result c.place_at.result
    (sym (c.in-Some.ensures.heap refl)) ((rw c.split-number.ensures at c.live_after.ensures.after) (subst IsSome c.in-Some.ensures.range live)) (rw c.split-number.ensures at c.place_at.ensures)

pub returns-in-Some-clause-not_live : goal.returns-in-Some-clause-not_live
returns-in-Some-clause-not_live g c dead =
    none_of c.args.place.heap c.args.self.now.realm c.live_after.result c.place_at.result
    ((rw c.split-number.ensures at c.live_after.ensures.not_live) (λ live. dead (subst IsSome (sym c.in-Some.ensures.range) live))) (rw c.split-number.ensures at c.place_at.ensures)
