use Rattle.offset_allocator.proofs.{Common.◌∙◌, Common.ap, Common.arith, Common.refl, Common.Cells, Common.ChainCells, Common.Node, Linking.Exchange.top, Linking.Exchange.back_to}
use Rattle.offset_allocator.proofs.{Linking.Exchange.relinked_spare, Linking.Nodes.length-put, Linking.Nodes.spare-put, Linking.Places.at_place, Linking.Places.end_fits, Linking.Places.next_below}
use Rattle.offset_allocator.proofs.{Linking.Writes.split_place, Linking.Names.top_taken}
use Rattle.offset_allocator.proofs.chain.split.Goals as goal

pub overflow_add-offset : goal.overflow_add-offset
overflow_add-offset g c =
    let h = c.requires.place.2 in
    let at = at_place h in
    omega (arith, c.requires.offset, c.requires.whole, c.requires.within, ap (λ (v : Node). v.offset) at, ap (λ (v : Node). v.size) at, end_fits h)

pub set_block-requires-clause-name : goal.set_block-requires-clause-name
set_block-requires-clause-name g c = (top _ c.requires.place.2.chain c.requires.spare (c.number-rest.ensures.number ∙ c.spare.ensures.cell)).below

pub set_block-requires-clause-idle : goal.set_block-requires-clause-idle
set_block-requires-clause-idle g c = (top _ c.requires.place.2.chain c.requires.spare (c.number-rest.ensures.number ∙ c.spare.ensures.cell)).idle

pub link_to-on-requires : goal.link_to-on-requires
link_to-on-requires g c = (top _ c.requires.place.2.chain c.requires.spare (c.number-rest.ensures.number ∙ c.spare.ensures.cell)).below

pub point_back-requires-clause-link : goal.point_back-requires-clause-link
point_back-requires-clause-link g c = rw (c.after-next.ensures.cell, c.set_end.ensures.cells, length-put, c.set_block.ensures.cells, length-put) (next_below c.requires.place.2)

pub point_back-requires-clause-name : goal.point_back-requires-clause-name
point_back-requires-clause-name g c =
    rw (c.set_end.ensures.cells, length-put, c.set_block.ensures.cells, length-put) (top _ c.requires.place.2.chain c.requires.spare (c.number-rest.ensures.number ∙ c.spare.ensures.cell)).below

pub returns-clause-place : goal.returns-clause-place
returns-clause-place g c m p h =
    let chain_of : Cells → ChainCells = λ v. v.chain in
    split_place h c.requires.spare (c.number-rest.ensures.number ∙ c.spare.ensures.cell) c.requires.within c.requires.offset c.requires.whole c.after-next.ensures.cell
    c.link_to-back.ensures c.link_to-on.ensures
    (ap chain_of c.set_block.ensures.cells) (ap chain_of c.set_end.ensures.cells) c.point_back.ensures.cells c.point_back.ensures.last

pub returns-clause-fresh : goal.returns-clause-fresh
returns-clause-fresh g c m p h = (top _ h.chain c.requires.spare (c.number-rest.ensures.number ∙ c.spare.ensures.cell)).absent

pub returns-clause-below : goal.returns-clause-below
returns-clause-below g c = (top _ c.requires.place.2.chain c.requires.spare (c.number-rest.ensures.number ∙ c.spare.ensures.cell)).below

pub set_end-requires : goal.set_end-requires
set_end-requires g c = rw (c.set_block.ensures.cells, length-put) c.requires.place.2.below

pub returns-clause-bins : goal.returns-clause-bins
returns-clause-bins g c = (rw (c.point_back.ensures.bins, c.set_end.ensures.cells, c.set_block.ensures.cells) refl, refl)

pub returns-clause-nodes : goal.returns-clause-nodes
returns-clause-nodes g c = rw (c.point_back.ensures.nodes, c.set_end.ensures.cells, length-put, c.set_block.ensures.cells, length-put) refl

pub returns-clause-accesses : goal.returns-clause-accesses
returns-clause-accesses g c = (omega arith, omega arith)

pub returns-clause-unused : goal.returns-clause-unused
returns-clause-unused g c =
    let h = c.requires.place.2.chain in
    top_taken _ _ _ _ c.requires.spare (omega (arith, h.full, h.stack)) (c.number-rest.ensures.number ∙ c.spare.ensures.cell)
    (relinked_spare (back_to _) _ _ _ c.point_back.ensures.cells ∙ rw (c.set_end.ensures.cells, spare-put, c.set_block.ensures.cells, spare-put) refl)
