use Rattle.offset_allocator.proofs.{Common.◌≡◌, Common.◌∙◌, Common.arith, Common.refl, Common.length-set, Common.down, Filing.Binned.below, Filing.Binned.older_in, Filing.Binned.newer_past, Filing.Binned.is_first}
use Rattle.offset_allocator.proofs.{Filing.Binned.exchanged}
use Rattle.offset_allocator.proofs.{Filing.Binned.exchange_masked, Filing.Binned.changed, Classes.down_small, Views.ViewBins.unlisted_removed, Filing.Uses.after_idle, Filing.Uses.no_mark}
use Rattle.offset_allocator.proofs.bins.exchange.Goals as goal

pub newer-newer-requires : goal.newer-newer-requires
newer-newer-requires g c = below c.requires.binned.linked _ (down_small c.args.size) _ c.requires.listed

pub older-older-requires : goal.older-older-requires
older-older-requires g c = omega (arith, below c.requires.binned.linked _ (down_small c.args.size) _ c.requires.listed, c.requires.binned.linked.older_len)

pub link_newer-requires-clause-named : goal.link_newer-requires-clause-named
link_newer-requires-clause-named g c n =
    rw (c.set_links.ensures.cells, c.set_head.ensures.cells, length-set, c.older-older.ensures.cell)
    (older_in c.requires.binned.linked _ (down_small c.args.size) _ c.requires.listed (λ e. n (c.older-older.ensures.cell ∙ e)))

pub set_links-requires-clause-link : goal.set_links-requires-clause-link
set_links-requires-clause-link g c = no_mark c.shape.ensures (g.T.Index.NodeIndex.number c.no_link.result) (λ n. absurd (n c.no_link.ensures.number))

pub link_newer-requires-clause-idle : goal.link_newer-requires-clause-idle
link_newer-requires-clause-idle g c n =
    rw (c.set_links.ensures.cells, c.set_head.ensures.cells, c.older-older.ensures.cell)
    (after_idle c.shape.ensures c.requires.binned.linked _ (down_small c.args.size) _ c.requires.listed (λ e. n (c.older-older.ensures.cell ∙ e)))

pub link_newer-requires-clause-link : goal.link_newer-requires-clause-link
link_newer-requires-clause-link g c = no_mark c.shape.ensures (g.T.Index.NodeIndex.number c.link_to.result) (λ n. omega (arith, c.link_to.ensures.number, c.requires.named))

pub push-requires-clause-unlisted : goal.push-requires-clause-unlisted
push-requires-clause-unlisted g c = grind (arith, unlisted_removed, down_small)

pub returns-then-class-uint_to_float_round_down : goal.returns-then-class-uint_to_float_round_down
returns-then-class-uint_to_float_round_down g c =
    let k = c.requires.binned.linked in
    let same : c.args.class ≡ down c.args.size = c.if-class-uint_to_float_round_down.true ∙ c.uint_to_float_round_down.ensures.is in
    let z = newer_past k _ (down_small c.args.size) _ c.requires.listed (omega (arith, c.newer-newer.ensures.cell, c.shape.ensures.newer, c.if-not-has.ensures.past refl)) in
    let f = is_first k _ (down_small c.args.size) _ c.requires.listed z in
    let e = rw (c.set_links.ensures.cells, c.set_head.ensures.cells) at c.link_newer.ensures.cells in
    let next = rw (← f.1) at (c.older-older.ensures.cell) in
    rw same (changed (rw f.1 at (exchanged k _ (down_small c.args.size) (g.T.Tables.cells c.link_newer.new.tables).bins c.args.name _
    (omega (arith, c.requires.named, c.shape.ensures.newer)) c.requires.unlisted f.0 next
    (rw (e, c.no_link.ensures.number, c.link_to.ensures.number))
    (rw e)
    (rw (e, same))))
    (rw e (exchange_masked c.requires.binned.masked k.lists_len _ c.args.name c.args.gone (down_small c.args.size) f.0)) (rw e, refl, refl) (omega arith, omega arith))
