use Rattle.offset_allocator.proofs.{Linking.Nodes.length-put, Linking.Nodes.spare-put, Moving.Gaps.gap_below, Moving.Gaps.before_some, Moving.Gaps.after_some, Moving.Gaps.closed}
use Rattle.offset_allocator.proofs.{Linking.Exchange.back_to, Linking.Exchange.on_to, Linking.Exchange.relinked_spare}
use Rattle.offset_allocator.proofs.Common.{ap, refl, None, first_or, last_or, Cells, ChainCells, take, ◌∙◌}
use Rattle.offset_allocator.proofs.moves.gap.close.Goals as goal

pub set_block-requires-clause-name : goal.set_block-requires-clause-name
set_block-requires-clause-name g c = let r = c.requires.place in gap_below r.1.before r.1.block r.1.after r.2.there

pub point_on-requires : goal.point_on-requires
point_on-requires g c =
    let r = c.requires.place in
    record {
      link = rw (r.2.link, c.set_block.ensures.cells, length-put) (before_some r.1.before r.1.block r.1.after r.2.there (last_or None r.1.before) refl);
      name = rw (c.set_block.ensures.cells, length-put) (gap_below r.1.before r.1.block r.1.after r.2.there);
    }

pub point_back-requires : goal.point_back-requires
point_back-requires g c =
    let r = c.requires.place in
    record {
      link = rw (r.3, c.point_on.ensures.nodes, c.set_block.ensures.cells, length-put) (after_some r.1.before r.1.block r.1.after r.2.there (first_or None r.1.after) refl);
      name = rw (c.point_on.ensures.nodes, c.set_block.ensures.cells, length-put) (gap_below r.1.before r.1.block r.1.after r.2.there);
    }

pub returns-clause-place : goal.returns-clause-place
returns-clause-place g c m p i l =
    let chain_of : Cells → ChainCells = λ v. v.chain in
    closed (g.T.Tables.cells c.point_on.new.tables).chain p.before p.block p.after i.there (rw (i.offset, i.size, i.link, l) at (ap chain_of c.set_block.ensures.cells))
    (rw i.link at c.point_on.ensures.cells)
    (rw l at c.point_back.ensures.cells) (rw l at c.point_back.ensures.last)

pub returns-clause-unused : goal.returns-clause-unused
returns-clause-unused g c = ap (take _) (relinked_spare (back_to _) _ _ _ c.point_back.ensures.cells ∙ relinked_spare (on_to _) _ _ _ c.point_on.ensures.cells ∙ rw (c.set_block.ensures.cells, spare-put) refl)
