use Rattle.offset_allocator.proofs.{Common.arith, Common.refl, Linking.Parts.no_padding, Linking.Parts.some_part, Linking.Places.previous_idle, Classes.down_small}
use Rattle.offset_allocator.proofs.Linking.Names.{kept_unused, next_taken, none_taken, one_taken, ready_place}
use Rattle.offset_allocator.proofs.neighbours.split_padding.Goals as goal

pub returns-then-units-eq0-clause-place : goal.returns-then-units-eq0-clause-place
returns-then-units-eq0-clause-place g c m p h = no_padding c.args.name c.args.units h (omega arith)

pub returns-then-units-eq0-clause-unused : goal.returns-then-units-eq0-clause-unused
returns-then-units-eq0-clause-unused g c m p h = none_taken _ c.args.name c.args.units _ (omega arith)

pub ensure_spare-requires : goal.ensure_spare-requires
ensure_spare-requires g c = record { memory = (_, _, _, c.requires.place.2.chain, c.requires.place.4 (omega arith)) }

pub split_before-front-requires-clause-place : goal.split_before-front-requires-clause-place
split_before-front-requires-clause-place g c = (_, _, ready_place c.ensure_spare.ensures.readies c.requires.place.2)

pub split_before-front-requires-clause-within : goal.split_before-front-requires-clause-within
split_before-front-requires-clause-within g c = rw (c.ensure_spare.ensures.readies.node c.args.name) c.requires.within

pub push-requires-clause-classed : goal.push-requires-clause-classed
push-requires-clause-classed g c = omega (arith, down_small c.args.units, c.uint_to_float_round_down.ensures.is)

pub push-requires-clause-binned : goal.push-requires-clause-binned
push-requires-clause-binned g c = rw (c.split_before-front.ensures.bins.0, c.split_before-front.ensures.bins.1) (c.ensure_spare.ensures.readies.bins _ c.requires.binned).0

pub push-requires-clause-idle : goal.push-requires-clause-idle
push-requires-clause-idle g c =
    previous_idle c.split_before-front.result c.args.units c.requires.place.1.before (c.split_before-front.ensures.place _ _ (ready_place c.ensure_spare.ensures.readies c.requires.place.2))

pub push-requires-clause-unlisted : goal.push-requires-clause-unlisted
push-requires-clause-unlisted g c =
    rw (c.split_before-front.ensures.bins.0, (c.ensure_spare.ensures.readies.bins _ c.requires.binned).1)
    (c.requires.place.3 _ (c.split_before-front.ensures.fresh _ _ (ready_place c.ensure_spare.ensures.readies c.requires.place.2)))

pub returns-clause-place : goal.returns-clause-place
returns-clause-place g c m p h =
    let some = some_part c.split_before-front.result c.args.units (omega arith) in
    rw (c.push.ensures.chain.0, c.push.ensures.chain.1, c.push.ensures.chain.2, ← some) (c.split_before-front.ensures.place _ _ (ready_place c.ensure_spare.ensures.readies h))

pub returns-clause-lists : goal.returns-clause-lists
returns-clause-lists g c =
    let some = some_part c.split_before-front.result c.args.units (omega arith) in
    rw (c.push.ensures.lists, ← some, c.split_before-front.ensures.bins.0, (c.ensure_spare.ensures.readies.bins _ c.requires.binned).1, c.uint_to_float_round_down.ensures.is) refl

pub returns-clause-unused : goal.returns-clause-unused
returns-clause-unused g c m p h =
    one_taken _ c.split_before-front.result c.args.units _ _ (omega arith)
    (next_taken c.split_before-front.result _ _ h c.ensure_spare.ensures.unused (rw (← kept_unused c.push.ensures.chain) at c.split_before-front.ensures.unused))
