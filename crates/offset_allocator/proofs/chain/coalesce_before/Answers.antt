use Rattle.offset_allocator.proofs.{Common.◌∙◌, Common.ap, Common.arith, Common.refl, Common.Cells, Common.ChainCells, Common.common_steps, Linking.Places.previous_place}
use Rattle.offset_allocator.proofs.{Linking.Places.previous_below, Linking.Places.spare_room, Linking.Exchange.on_to, Linking.Exchange.relinked_spare, Linking.Nodes.length-put}
use Rattle.offset_allocator.proofs.{Linking.Nodes.spare-put, Linking.Nodes.nodes-with_spare, Linking.Writes.coalesce_before_place, Linking.Names.put_back}
use Rattle.offset_allocator.proofs.chain.coalesce_before.Goals as goal

pub offset-offset-requires : goal.offset-offset-requires
offset-offset-requires g c = (previous_place c.requires.place.2 c.requires.previous).place.below

pub before-link-requires : goal.before-link-requires
before-link-requires g c = (previous_place c.requires.place.2 c.requires.previous).place.below

pub point_on-requires-clause-link : goal.point_on-requires-clause-link
point_on-requires-clause-link g c = rw (c.before-link.ensures.cell, c.set_start.ensures.cells, length-put) (previous_below (previous_place c.requires.place.2 c.requires.previous).place)

pub link_to-requires : goal.link_to-requires
link_to-requires g c = omega (arith, c.shape.ensures.limit, (previous_place c.requires.place.2 c.requires.previous).place.below)

pub set_spare-requires : goal.set_spare-requires
set_spare-requires g c = grind (arith, common_steps, relinked_spare, spare-put, spare_room)

pub returns-clause-place : goal.returns-clause-place
returns-clause-place g c m p h =
    let chain_of : Cells → ChainCells = λ v. v.chain in
    coalesce_before_place (g.T.Tables.cells c.point_on.new.tables).chain h c.requires.previous c.requires.free c.offset-offset.ensures.cell c.requires.whole c.before-link.ensures.cell
    (ap chain_of c.set_start.ensures.cells) c.point_on.ensures.cells (rw c.link_to.ensures.number at (ap chain_of c.set_spare.ensures.cells))

pub point_on-requires-clause-name : goal.point_on-requires-clause-name
point_on-requires-clause-name g c = rw (c.set_start.ensures.cells, length-put) c.requires.place.2.below

pub returns-clause-bins : goal.returns-clause-bins
returns-clause-bins g c = (rw (c.set_spare.ensures.cells, c.point_on.ensures.bins, c.set_start.ensures.cells) refl, refl)

pub returns-clause-nodes : goal.returns-clause-nodes
returns-clause-nodes g c = rw (c.set_spare.ensures.cells, nodes-with_spare, c.point_on.ensures.nodes, c.set_start.ensures.cells, length-put) refl

pub returns-clause-accesses : goal.returns-clause-accesses
returns-clause-accesses g c = (omega arith, omega arith)

pub returns-clause-unused : goal.returns-clause-unused
returns-clause-unused g c =
    let chain_of : Cells → ChainCells = λ v. v.chain in
    let h = c.requires.place.2 in
    put_back _ _ _ _ _ (spare_room h) (relinked_spare (on_to _) _ _ _ c.point_on.ensures.cells ∙ rw (c.set_start.ensures.cells, spare-put) refl)
    (rw c.link_to.ensures.number at (ap chain_of c.set_spare.ensures.cells))
