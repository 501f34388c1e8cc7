use Rattle.offset_allocator.proofs.Common.{false, add-one, ◌≡◌, ◌∙◌, ◌+◌, ◌<◌, ◌∷◌, ap, subst, sym, refl, ℕ, List, length, drop, get_or, arith, Cells, ChainCells}
use Rattle.std.proofs.Math.Seq.{drop-cons}
use Rattle.offset_allocator.proofs.{Saving.Marks.times_at, Saving.Marks.mark_removed, Saving.Marks.use_spare, Saving.Marks.made_marked, Linking.Nodes.length-put}
use Rattle.offset_allocator.specs.Saving.Building.{HasBack}
use Rattle.offset_allocator.proofs.states.building.clear_marks.Goals as goal

pub set_used-requires : goal.set_used-requires
set_used-requires g c =
    let ws : List ℕ = c.args.words.now in
    let name : ℕ = get_or ws c.loop-i.i 0 in
    omega (arith, c.loop-i.invariant.nodes, c.requires.named name (omega (arith, times_at name c.loop-i.i ws (omega arith) refl)))

pub loop-i-preserved : goal.loop-i-preserved
loop-i-preserved g c =
    let i = c.loop-i.invariant in
    let ws : List ℕ = c.args.words.now in
    let at : ℕ = c.loop-i.i in
    let name : ℕ = get_or ws at 0 in
    let named : name < length (g.T.Tables.cells c.loop-i.tables).chain.nodes = omega (arith, i.nodes, c.requires.named name (omega (arith, times_at name at ws (omega arith) refl))) in
    let e = ap (λ (k : Cells). k.chain) c.set_used.ensures.cells in
    let first : drop at ws ≡ name ∷ drop (at + 1) ws = drop-cons ws at 0 (omega arith) ∙ ap (λ n. name ∷ drop n ws) (sym (add-one at)) in
    record {
      back = λ o bs h. mark_removed (g.T.Tables.cells c.loop-i.tables) (g.T.Tables.cells c.set_used.new.self) name false named e refl
          (subst (HasBack (g.T.Tables.cells c.loop-i.tables) o bs) first (i.back o bs h));
      spare = use_spare (g.T.Tables.cells c.loop-i.tables) (g.T.Tables.cells c.set_used.new.self) name false named e ∙ i.spare;
      made = λ n m h. made_marked _ _ _ (i.made n m h) c.set_used.ensures.cells;
      nodes = ap (λ (k : ChainCells). length k.nodes) e ∙ length-put _ _ _ ∙ i.nodes;
    }
