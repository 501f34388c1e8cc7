use Rattle.offset_allocator.proofs.{Common.◌∷◌, Common.◌∙◌, Common.sym, Common.ap, Common.ap₂, Common.bin_at, Filing.Binned.head, Filing.Binned.without_head, Views.ViewBins.names_same}
use Rattle.offset_allocator.proofs.bins.pop.Goals as goal

pub remove_newest-requires-clause-older : goal.remove_newest-requires-clause-older
remove_newest-requires-clause-older g c = rw (← (c.head-name.ensures.cell)) c.older-older.ensures.cell

pub returns-clause-first : goal.returns-clause-first
returns-clause-first g c =
    let k = c.requires.binned.linked in
    let rest = ap (λ o. bin_at o c.args.class) c.remove_newest.ensures.lists ∙ names_same _ c.args.class _ k.lists_len c.requires.classed
    ∙ without_head k c.args.class c.requires.classed c.requires.some in
    (head k c.args.class c.requires.classed c.requires.some).0 ∙ ap₂ (λ x xs. x ∷ xs) (sym c.head-name.ensures.cell) (sym rest)

pub returns-clause-lists : goal.returns-clause-lists
returns-clause-lists g c = rw (c.head-name.ensures.cell) c.remove_newest.ensures.lists
