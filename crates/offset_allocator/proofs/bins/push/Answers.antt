use Rattle.offset_allocator.proofs.Common.{◌∙◌, ap, sym, arith, refl, length-set, set_past, first_of, bin_at, bins_in, common_steps}
use Rattle.offset_allocator.proofs.Filing.Binned.{head_among, head_below, head_small, pushed, changed}
use Rattle.offset_allocator.proofs.{Filing.Masks.flag_cons, Filing.Masks.flag_full, Filing.Masks.masked_same, Filing.Masks.masked_set, Filing.Uses.listed_idle, Filing.Uses.no_mark}
use Rattle.offset_allocator.proofs.bins.push.Goals as goal

pub set_links-requires-clause-link : goal.set_links-requires-clause-link
set_links-requires-clause-link g c = no_mark c.shape.ensures (g.T.Index.NodeIndex.number c.no_link.result) (λ n. absurd (n c.no_link.ensures.number))

pub set_newer-requires : goal.set_newer-requires
set_newer-requires g c = grind (arith, common_steps, length-set, head_below, listed_idle, head_among, no_mark)

pub returns-then-not-has : goal.returns-then-not-has
returns-then-not-has g c =
    let k = c.requires.binned.linked in
    let h = c.head-newest.ensures.cell in
    let kept = c.from_u32.ensures.kept (rw h (head_small k c.args.class c.requires.classed)) in
    let e = rw (c.set_links.ensures.cells, c.set_head.ensures.cells) at c.set_mask.ensures.cells in
    let past = rw (c.set_links.ensures.cells, c.set_head.ensures.cells) at (c.if-not-has.ensures.past refl) in
    changed (pushed k c.args.class c.requires.classed (g.T.Tables.cells c.set_mask.new.self).bins c.args.name (omega (arith, c.requires.named, c.shape.ensures.newer)) c.requires.unlisted
    (rw (e, c.no_link.ensures.number) (sym (set_past _ _ _ (omega (arith, past, c.shape.ensures.newer, length-set (g.T.Tables.cells c.args.store.now.tables).bins.newer c.args.name g.T.Index.NodeIndex.MAX)))))
    (rw (e, kept, h))
    (rw e))
    (rw e (masked_set c.requires.binned.masked k.lists_len c.args.class c.requires.classed _ _ (c.mask-mask.ensures.cell ∙ rw (c.set_links.ensures.cells, c.set_head.ensures.cells))
    (flag_cons c.args.name (bin_at (bins_in g.T.Index.NodeIndex.MAX (g.T.Tables.cells c.args.store.now.tables).bins) c.args.class)))) (
      rw e,
      refl,
      refl,
    ) (omega arith, omega arith)

pub returns-else-not-has : goal.returns-else-not-has
returns-else-not-has g c =
    let k = c.requires.binned.linked in
    let h = c.head-newest.ensures.cell in
    let kept = c.from_u32.ensures.kept (rw h (head_small k c.args.class c.requires.classed)) in
    let e = rw (c.set_links.ensures.cells, c.set_head.ensures.cells) at c.set_newer.ensures.cells in
    let made = rw (c.set_links.ensures.cells, c.set_head.ensures.cells) at (c.if-not-has.ensures.made refl) in
    changed (pushed k c.args.class c.requires.classed (g.T.Tables.cells c.set_newer.new.self).bins c.args.name (omega (arith, c.requires.named, c.shape.ensures.newer)) c.requires.unlisted
    (rw (e, c.no_link.ensures.number, h, c.link_to-link.ensures.number))
    (rw (e, kept, h))
    (rw e))
    (rw e (masked_same c.requires.binned.masked k.lists_len c.args.class c.requires.classed _
    (flag_cons c.args.name (bin_at (bins_in g.T.Index.NodeIndex.MAX (g.T.Tables.cells c.args.store.now.tables).bins) c.args.class)
    ∙ sym (flag_full _ (λ z. let q = h ∙ k.heads c.args.class c.requires.classed ∙ ap (first_of g.T.Index.NodeIndex.MAX) z in absurd (omega (arith, q, made, c.shape.ensures))))))) (
      rw e,
      refl,
      refl,
    ) (omega arith, omega arith)
