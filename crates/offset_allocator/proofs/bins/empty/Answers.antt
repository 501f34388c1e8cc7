use Rattle.offset_allocator.proofs.Common.{◌≡◌, ℕ, ap, sym, ◌∙◌, arith, length, take_all, replicate, Cells, common_steps}
use Rattle.offset_allocator.proofs.Fresh.{empty_binned}
use Rattle.offset_allocator.proofs.bins.empty.Goals as goal

pub returns : goal.returns
returns g c =
    let old = c.shape.ensures in
    let a = c.loop-class.invariant in
    let b = c.loop-word.invariant in
    let classes : c.loop-class.class ≡ 256 = omega arith in
    let words : c.loop-word.word ≡ 4 = omega arith in
    let newer : length (g.T.Tables.cells c.loop-word.tables).bins.newer ≡ length (g.T.Tables.cells c.args.store.now.tables).bins.newer = grind (arith, common_steps) in
    let older : length (g.T.Tables.cells c.loop-word.tables).bins.older ≡ length (g.T.Tables.cells c.args.store.now.tables).bins.older = grind (arith, common_steps) in
    let same_masks : length (g.T.Tables.cells c.loop-class.tables).bins.masks ≡ length (g.T.Tables.cells c.args.store.now.tables).bins.masks = ap (λ (t : Cells). length t.bins.masks) a.rest in
    let heads : (g.T.Tables.cells c.loop-word.tables).bins.heads ≡ replicate 256 g.T.Index.NodeIndex.MAX =
    ap (λ (t : Cells). t.bins.heads) b.rest ∙ sym (take_all c.loop-class.class (g.T.Tables.cells c.loop-class.tables).bins.heads (omega (arith, a.even, old.heads))) ∙ a.written
    ∙ ap (λ (n : ℕ). replicate n g.T.Index.NodeIndex.MAX) classes in
    let masks : (g.T.Tables.cells c.loop-word.tables).bins.masks ≡ replicate 4 0 =
    sym (take_all c.loop-word.word (g.T.Tables.cells c.loop-word.tables).bins.masks (omega (arith, b.even, same_masks, old.masks))) ∙ b.written ∙ ap (λ (n : ℕ). replicate n 0) words in
    let empty = empty_binned (g.T.Tables.cells c.loop-word.tables).bins (omega (arith, newer, older, old.newer, old.older)) (omega (arith, newer, old.newer, old.within, old.limit)) heads masks in
    grind (arith, common_steps)
