use Rattle.offset_allocator.proofs.{Common.◌≡◌, Common.◌-◌, Common.ap, Common.arith, Common.refl, Common.Node, Linking.Parts.no_remainder, Linking.Parts.some_part, Linking.Places.at_place}
use Rattle.offset_allocator.proofs.{Linking.Places.end_fits, Linking.Places.next_idle, Classes.down_small, Linking.Names.kept_unused, Linking.Names.next_taken, Linking.Names.none_taken}
use Rattle.offset_allocator.proofs.{Linking.Names.one_taken, Linking.Names.ready_place}
use Rattle.offset_allocator.proofs.neighbours.split_remainder.Goals as goal

pub returns-then-left-eq0-clause-place : goal.returns-then-left-eq0-clause-place
returns-then-left-eq0-clause-place g c m p h = no_remainder c.args.name c.args.left c.args.size h (omega arith) (omega (arith, c.requires.whole, ap (λ (v : Node). v.size) (at_place h)))

pub returns-then-left-eq0-clause-unused : goal.returns-then-left-eq0-clause-unused
returns-then-left-eq0-clause-unused g c m p h = none_taken _ c.args.name c.args.left _ (omega arith)

pub ensure_spare-requires : goal.ensure_spare-requires
ensure_spare-requires g c = record { memory = (_, _, _, c.requires.place.2.chain, c.requires.place.4 (omega arith)) }

pub overflow_add-size : goal.overflow_add-size
overflow_add-size g c = omega (arith, c.requires.whole, end_fits c.requires.place.2, ap (λ (v : Node). v.size) (at_place c.requires.place.2))

pub split-rest-requires-clause-place : goal.split-rest-requires-clause-place
split-rest-requires-clause-place g c = (_, _, ready_place c.ensure_spare.ensures.readies c.requires.place.2)

pub split-rest-requires-clause-offset : goal.split-rest-requires-clause-offset
split-rest-requires-clause-offset g c = rw (c.ensure_spare.ensures.readies.node c.args.name) c.requires.offset

pub split-rest-requires-clause-whole : goal.split-rest-requires-clause-whole
split-rest-requires-clause-whole g c = rw (c.ensure_spare.ensures.readies.node c.args.name) c.requires.whole

pub push-requires-clause-classed : goal.push-requires-clause-classed
push-requires-clause-classed g c = omega (arith, down_small c.args.left, c.uint_to_float_round_down.ensures.is)

pub push-requires-clause-binned : goal.push-requires-clause-binned
push-requires-clause-binned g c = rw (c.split-rest.ensures.bins.0, c.split-rest.ensures.bins.1) (c.ensure_spare.ensures.readies.bins _ c.requires.binned).0

pub push-requires-clause-unlisted : goal.push-requires-clause-unlisted
push-requires-clause-unlisted g c =
    rw (c.split-rest.ensures.bins.0, (c.ensure_spare.ensures.readies.bins _ c.requires.binned).1)
    (c.requires.place.3 _ (c.split-rest.ensures.fresh _ _ (ready_place c.ensure_spare.ensures.readies c.requires.place.2)))

pub push-requires-clause-idle : goal.push-requires-clause-idle
push-requires-clause-idle g c = next_idle (c.split-rest.ensures.place _ _ (ready_place c.ensure_spare.ensures.readies c.requires.place.2))

pub returns-clause-place : goal.returns-clause-place
returns-clause-place g c m p h =
    let left : p.block.size - c.args.size ≡ c.args.left = omega (arith, c.requires.whole, ap (λ (v : Node). v.size) (at_place h)) in
    let some = some_part c.split-rest.result c.args.left (omega arith) in
    rw (c.push.ensures.chain.0, c.push.ensures.chain.1, c.push.ensures.chain.2, ← some, ← left) (c.split-rest.ensures.place _ _ (ready_place c.ensure_spare.ensures.readies h))

pub returns-clause-lists : goal.returns-clause-lists
returns-clause-lists g c =
    let some = some_part c.split-rest.result c.args.left (omega arith) in
    rw (c.push.ensures.lists, ← some, c.split-rest.ensures.bins.0, (c.ensure_spare.ensures.readies.bins _ c.requires.binned).1, c.uint_to_float_round_down.ensures.is) refl

pub returns-clause-unused : goal.returns-clause-unused
returns-clause-unused g c m p h =
    one_taken _ c.split-rest.result c.args.left _ _ (omega arith)
    (next_taken c.split-rest.result _ _ h c.ensure_spare.ensures.unused (rw (← kept_unused c.push.ensures.chain) at c.split-rest.ensures.unused))
