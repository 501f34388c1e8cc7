use Rattle.offset_allocator.proofs.{Common.◌≢◌, Common.◌∙◌, Common.arith, Common.refl, Common.slice_index, Classes.down_small, Filing.Uses.after_idle, Filing.Uses.no_mark}
use Rattle.offset_allocator.proofs.Filing.Binned.{below, newer_in, newer_past, older_in, is_first, is_later, later_masked, left, changed}
use Rattle.offset_allocator.proofs.bins.remove_linked.Goals as goal

pub older-older-requires : goal.older-older-requires
older-older-requires g c = omega (arith, below c.requires.binned.linked _ (down_small c.args.size) _ c.requires.listed, c.requires.binned.linked.older_len)

-- the newest name
pub remove_newest-requires-clause-classed : goal.remove_newest-requires-clause-classed
remove_newest-requires-clause-classed g c = omega (arith, down_small c.args.size, c.uint_to_float_round_down.ensures.is)

pub remove_newest-requires-clause-some : goal.remove_newest-requires-clause-some
remove_newest-requires-clause-some g c = grind (arith, is_first, down_small)

pub remove_newest-requires-clause-older : goal.remove_newest-requires-clause-older
remove_newest-requires-clause-older g c =
    let z = newer_past c.requires.binned.linked _ (down_small c.args.size) _ c.requires.listed (omega (arith, c.requires.newer, c.shape.ensures.newer, c.if-not-has.ensures.past refl)) in
    rw (c.uint_to_float_round_down.ensures.is, (is_first c.requires.binned.linked _ (down_small c.args.size) _ c.requires.listed z).1) c.older-older.ensures.cell

pub returns-then-not-has-clause-lists : goal.returns-then-not-has-clause-lists
returns-then-not-has-clause-lists g c =
    let z = newer_past c.requires.binned.linked _ (down_small c.args.size) _ c.requires.listed (omega (arith, c.requires.newer, c.shape.ensures.newer, c.if-not-has.ensures.past refl)) in
    rw (c.remove_newest.ensures.lists, c.uint_to_float_round_down.ensures.is, (is_first c.requires.binned.linked _ (down_small c.args.size) _ c.requires.listed z).1) refl

-- a later name
pub link_newer-requires-clause-named : goal.link_newer-requires-clause-named
link_newer-requires-clause-named g c n = rw c.older-older.ensures.cell (older_in c.requires.binned.linked _ (down_small c.args.size) _ c.requires.listed (λ e. n (c.older-older.ensures.cell ∙ e)))

pub link_newer-requires-clause-idle : goal.link_newer-requires-clause-idle
link_newer-requires-clause-idle g c n = rw c.older-older.ensures.cell
    (after_idle c.shape.ensures c.requires.binned.linked _ (down_small c.args.size) _ c.requires.listed (λ e. n (c.older-older.ensures.cell ∙ e)))

pub link_newer-requires-clause-link : goal.link_newer-requires-clause-link
link_newer-requires-clause-link g c =
    no_mark c.shape.ensures (g.T.Index.NodeIndex.number c.args.newer)
    (λ n. omega (arith, c.requires.newer, c.shape.ensures.newer, newer_in c.requires.binned.linked _ (down_small c.args.size) _ c.requires.listed (λ e. n (c.requires.newer ∙ e))))

pub set_older-requires : goal.set_older-requires
set_older-requires g c =
    rw c.link_newer.ensures.cells (omega (arith, c.if-not-has.ensures.made refl, c.shape.ensures.newer, c.requires.binned.linked.older_len))

pub returns-else-not-has : goal.returns-else-not-has
returns-else-not-has g c =
    let k = c.requires.binned.linked in
    let n : slice_index (g.T.Tables.cells c.args.store.now.tables).bins.newer c.args.name ≢ g.T.Index.NodeIndex.MAX =
    λ e. absurd (omega (arith, e, c.requires.newer, c.shape.ensures, c.if-not-has.ensures.made refl)) in
    let e = rw c.link_newer.ensures.cells at c.set_older.ensures.cells in
    changed (left k _ (down_small c.args.size) (g.T.Tables.cells c.set_older.new.self).bins _ _ _ (is_later k _ (down_small c.args.size) _ c.requires.listed n)
    c.requires.newer c.older-older.ensures.cell
    (rw e) (rw (e, c.number-else-not-has.ensures.number)) (rw e))
    (rw e (later_masked k _ (down_small c.args.size) _ c.requires.listed n c.requires.binned.masked)) (rw e, refl, refl) (omega arith, omega arith)
