use Rattle.offset_allocator.proofs.Common.{◌∙◌, ap, sym, arith, refl, set_past, first_of}
use Rattle.offset_allocator.proofs.{Filing.Binned.head, Filing.Binned.without_head, Filing.Binned.past_none, Filing.Binned.without_newest, Filing.Binned.changed, Filing.Masks.flag_full}
use Rattle.offset_allocator.proofs.{Filing.Masks.masked_same, Filing.Uses.second_idle}
use Rattle.offset_allocator.proofs.bins.remove_newest.Goals as goal

pub set_newer-requires : goal.set_newer-requires
set_newer-requires g c =
    let e = c.set_head.ensures.cells in
    let made = rw e at (c.if-not-has.ensures.made refl) in
    record {
      name = rw e (omega (arith, made, c.shape.ensures.newer));
      idle = rw e (second_idle c.shape.ensures c.requires.binned.linked c.args.class c.requires.classed c.requires.some (c.number-next.ensures.number ∙ c.requires.older)
          (λ z. omega (arith, z, made, c.shape.ensures.within, c.shape.ensures.limit)));
      link = λ z. omega (arith, z, c.no_link.ensures.number, c.shape.ensures.limit);
    }

pub returns-then-not-has : goal.returns-then-not-has
returns-then-not-has g c =
    let k = c.requires.binned.linked in
    let h = head k c.args.class c.requires.classed c.requires.some in
    let w = without_head k c.args.class c.requires.classed c.requires.some in
    let past = rw c.set_head.ensures.cells at (c.if-not-has.ensures.past refl) in
    let none = past_none k c.args.class c.requires.classed _ _ h.1.3 (omega (arith, past, c.shape.ensures.newer, c.number-next.ensures.number, c.requires.older ∙ h.1.2)) in
    let e = rw c.set_head.ensures.cells at c.clear_bit.ensures.rest in
    rw w (changed (without_newest k c.args.class c.requires.classed (g.T.Tables.cells c.clear_bit.new.store.tables).bins _ c.requires.some c.requires.older
    (rw e (sym (set_past _ _ _ (omega (arith, k.names_small))))) (rw e) (rw (e, c.number-next.ensures.number)))
    (rw none (c.clear_bit.ensures.masked _ k.lists_len (rw c.set_head.ensures.cells c.requires.binned.masked))) (
      rw e,
      c.clear_bit.ensures.chain.1,
      c.clear_bit.ensures.chain.2,
    ) (omega arith, omega arith))

pub returns-else-not-has : goal.returns-else-not-has
returns-else-not-has g c =
    let k = c.requires.binned.linked in
    let h = head k c.args.class c.requires.classed c.requires.some in
    let w = without_head k c.args.class c.requires.classed c.requires.some in
    let e = rw c.set_head.ensures.cells at c.set_newer.ensures.cells in
    let made = rw c.set_head.ensures.cells at (c.if-not-has.ensures.made refl) in
    rw w (changed (without_newest k c.args.class c.requires.classed (g.T.Tables.cells c.set_newer.new.self).bins _ c.requires.some c.requires.older
    (rw (e, c.number-next.ensures.number, c.no_link.ensures.number)) (rw e) (rw (e, c.number-next.ensures.number)))
    (rw e (masked_same c.requires.binned.masked k.lists_len c.args.class c.requires.classed _ (flag_full _ (λ z. let q = c.requires.older ∙ h.1.2 ∙ ap (first_of g.T.Index.NodeIndex.MAX) z in
    absurd (omega (arith, q, made, c.shape.ensures, c.number-next.ensures.number))) ∙ sym (flag_full _ c.requires.some)))) (rw e, refl, refl) (omega arith, omega arith))
