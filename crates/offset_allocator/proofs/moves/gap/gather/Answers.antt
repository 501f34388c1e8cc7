use Rattle.offset_allocator.proofs.{Moving.Gaps.follows, Moving.Gaps.next_node, Moving.Gaps.next_below, Moving.Gaps.next_fits, Moving.Gaps.taken_in, Linking.Names.put_back}
use Rattle.offset_allocator.proofs.Common.{◌∙◌, ◌∷◌, length, length-append, ap, refl, sym, arith, Cells, ChainCells, node}
use Rattle.offset_allocator.proofs.moves.gap.gather.Goals as goal

pub link_to-requires : goal.link_to-requires
link_to-requires g c =
    let r = c.requires.place in
    omega (arith, r.6, c.shape.ensures.within, c.shape.ensures.limit, next_below r.1.before r.1.block r.2 r.3 (follows r.4.there r.5))

pub overflow_add-gap : goal.overflow_add-gap
overflow_add-gap g c =
    let r = c.requires.place in
    let h = follows r.4.there r.5 in
    let size = c.requires.more ∙ ap (λ n. (node (g.T.Tables.cells c.args.store.now.tables).chain n).size) (sym r.6) ∙ next_node r.1.before r.1.block r.2 r.3 h in
    omega (arith, r.4.size, size, next_fits r.1.before r.1.block r.2 r.3 h)

pub returns-clause-gap : goal.returns-clause-gap
returns-clause-gap g c m p b bs i e named idle =
    let chain_of : Cells → ChainCells = λ v. v.chain in
    let h = follows i.there e in
    let size = c.requires.more ∙ ap (λ n. (node (g.T.Tables.cells c.args.store.now.tables).chain n).size) (sym named) ∙ next_node p.before p.block b bs h in
    record {
      there = taken_in p.before p.block b bs h idle (rw (c.link_to.ensures.number, ← named) at (ap chain_of c.set_spare.ensures.cells));
      offset = i.offset;
      size = omega (arith, i.size, size);
      link = i.link;
    }

pub returns-clause-unused : goal.returns-clause-unused
returns-clause-unused g c =
    let chain_of : Cells → ChainCells = λ v. v.chain in
    let h = c.requires.place.4.there in
    put_back _ _ _ _ _ (omega (arith, h.full, h.stack, length-append c.requires.place.1.before (c.requires.place.1.block ∷ c.requires.place.1.after), ap length c.requires.place.5)) refl
    (rw c.link_to.ensures.number at (ap chain_of c.set_spare.ensures.cells))
