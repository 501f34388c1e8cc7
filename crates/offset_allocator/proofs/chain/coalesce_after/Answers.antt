use Rattle.offset_allocator.proofs.{Common.◌∙◌, Common.ap, Common.arith, Common.refl, Common.Cells, Common.ChainCells, Common.common_steps, Linking.Nodes.length-put, Linking.Nodes.spare-put}
use Rattle.offset_allocator.proofs.{Linking.Nodes.nodes-with_spare, Linking.Exchange.back_to, Linking.Exchange.relinked_spare, Linking.Places.next_place, Linking.Places.next_below}
use Rattle.offset_allocator.proofs.{Linking.Places.spare_room, Linking.Writes.coalesce_after_place, Linking.Names.put_back}
use Rattle.offset_allocator.proofs.chain.coalesce_after.Goals as goal

pub after-next-requires : goal.after-next-requires
after-next-requires g c = (next_place c.requires.place.2 c.requires.next).place.below

pub point_back-requires-clause-link : goal.point_back-requires-clause-link
point_back-requires-clause-link g c = rw (c.after-next.ensures.cell, c.set_end.ensures.cells, length-put) (next_below (next_place c.requires.place.2 c.requires.next).place)

pub link_to-requires : goal.link_to-requires
link_to-requires g c = omega (arith, c.shape.ensures.limit, (next_place c.requires.place.2 c.requires.next).place.below)

pub set_spare-requires : goal.set_spare-requires
set_spare-requires g c = grind (arith, common_steps, relinked_spare, spare-put, spare_room)

pub returns-clause-place : goal.returns-clause-place
returns-clause-place g c m p h =
    let chain_of : Cells → ChainCells = λ v. v.chain in
    coalesce_after_place (g.T.Tables.cells c.point_back.new.tables).chain h c.requires.next c.requires.free c.requires.whole c.after-next.ensures.cell
    (ap chain_of c.set_end.ensures.cells) c.point_back.ensures.cells c.point_back.ensures.last (rw c.link_to.ensures.number at (ap chain_of c.set_spare.ensures.cells))

pub point_back-requires-clause-name : goal.point_back-requires-clause-name
point_back-requires-clause-name g c = rw (c.set_end.ensures.cells, length-put) c.requires.place.2.below

pub returns-clause-bins : goal.returns-clause-bins
returns-clause-bins g c = (rw (c.set_spare.ensures.cells, c.point_back.ensures.bins, c.set_end.ensures.cells) refl, refl)

pub returns-clause-nodes : goal.returns-clause-nodes
returns-clause-nodes g c = rw (c.set_spare.ensures.cells, nodes-with_spare, c.point_back.ensures.nodes, c.set_end.ensures.cells, length-put) refl

pub returns-clause-accesses : goal.returns-clause-accesses
returns-clause-accesses g c = (omega arith, omega arith)

pub returns-clause-unused : goal.returns-clause-unused
returns-clause-unused g c =
    let chain_of : Cells → ChainCells = λ v. v.chain in
    let h = c.requires.place.2 in
    put_back _ _ _ _ _ (spare_room h) (relinked_spare (back_to _) _ _ _ c.point_back.ensures.cells ∙ rw (c.set_end.ensures.cells, spare-put) refl)
    (rw c.link_to.ensures.number at (ap chain_of c.set_spare.ensures.cells))
