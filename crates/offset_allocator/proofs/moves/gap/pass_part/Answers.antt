use Rattle.offset_allocator.proofs.{Linking.Nodes.length-put, Linking.Nodes.spare-put, Linking.Rows.last_or-append, Tallies.units-append, Linking.Exchange.on_to, Linking.Exchange.relinked_spare}
use Rattle.offset_allocator.proofs.Common.{◌∷◌, [], ◌∙◌, ap, refl, sym, arith, Some, last_or, None, Cells, ChainCells, node, take}
use Rattle.offset_allocator.proofs.Moving.Gaps.{follows, before_some, next_node, next_below, next_fits, passed_by}
use Rattle.offset_allocator.proofs.moves.gap.pass_part.Goals as goal

pub set_start-requires : goal.set_start-requires
set_start-requires g c = let r = c.requires.place in omega (arith, r.6, next_below r.1.before r.1.block r.2 r.3 (follows r.4.there r.5))

pub point_on-requires : goal.point_on-requires
point_on-requires g c =
    let r = c.requires.place in
    record {
      link = rw (r.4.link, c.set_start.ensures.cells, length-put) (before_some r.1.before r.1.block r.1.after r.4.there (last_or None r.1.before) refl);
      name = rw (c.set_start.ensures.cells, length-put) (omega (arith, r.6, next_below r.1.before r.1.block r.2 r.3 (follows r.4.there r.5)));
    }

pub link_to-gap-requires : goal.link_to-gap-requires
link_to-gap-requires g c =
    let r = c.requires.place in
    rw (c.point_on.ensures.nodes, c.set_start.ensures.cells, length-put) (omega (arith, r.6, next_below r.1.before r.1.block r.2 r.3 (follows r.4.there r.5)))

pub overflow_add-gap : goal.overflow_add-gap
overflow_add-gap g c =
    let r = c.requires.place in
    let h = follows r.4.there r.5 in
    let size = c.requires.more ∙ ap (λ n. (node (g.T.Tables.cells c.args.store.now.tables).chain n).size) (sym r.6) ∙ next_node r.1.before r.1.block r.2 r.3 h in
    omega (arith, r.4.offset, size, c.requires.within, next_fits r.1.before r.1.block r.2 r.3 h)

pub overflow_add-gap-2 : goal.overflow_add-gap-2
overflow_add-gap-2 g c =
    let r = c.requires.place in
    let h = follows r.4.there r.5 in
    let size = c.requires.more ∙ ap (λ n. (node (g.T.Tables.cells c.args.store.now.tables).chain n).size) (sym r.6) ∙ next_node r.1.before r.1.block r.2 r.3 h in
    omega (arith, r.4.size, size, next_fits r.1.before r.1.block r.2 r.3 h)

pub returns-clause-gap : goal.returns-clause-gap
returns-clause-gap g c m p b bs i e named =
    let chain_of : Cells → ChainCells = λ v. v.chain in
    let h = follows i.there e in
    let size = c.requires.more ∙ ap (λ n. (node (g.T.Tables.cells c.args.store.now.tables).chain n).size) (sym named) ∙ next_node p.before p.block b bs h in
    record {
      there = passed_by p.before p.block b bs h c.args.keep (omega (arith, size, c.requires.within)) (rw (← named, i.offset, i.link) at (ap chain_of c.set_start.ensures.cells)) (rw (i.link, ← named) at c.point_on.ensures.cells);
      offset = omega (arith, i.offset, units-append p.before (record b { size = c.args.keep } ∷ []));
      size = omega (arith, i.size, size);
      link = c.link_to-gap.ensures ∙ ap (λ n. Some n) (sym named) ∙ sym (last_or-append None p.before (record b { size = c.args.keep } ∷ []));
    }

pub returns-clause-unused : goal.returns-clause-unused
returns-clause-unused g c = ap (take _) (relinked_spare (on_to _) _ _ _ c.point_on.ensures.cells ∙ rw (c.set_start.ensures.cells, spare-put) refl)
