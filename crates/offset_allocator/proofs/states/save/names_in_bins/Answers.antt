use Rattle.offset_allocator.proofs.Common.{◌≡◌, ◌++◌, ◌∷◌, [], ◌∙◌, ℕ, List, ap, sym, take, take_more, append-nil, arith, bin_at, bins_in}
use Rattle.std.specs.List.{concat}
use Rattle.std.proofs.lemmas.List.Folds.{concat-append}
use Rattle.offset_allocator.proofs.states.save.names_in_bins.Goals as goal

pub loop-class-preserved : goal.loop-class-preserved
loop-class-preserved g c =
    let ls : List (List ℕ) = bins_in g.T.Index.NodeIndex.MAX (g.T.Tables.cells c.args.tables.now).bins in
    let l : List ℕ = bin_at ls c.loop-class.class in
    let one : concat (l ∷ []) ≡ l = append-nil l in
    c.in_ok-push_bin.ensures ∙ ap (λ k. k ++ l) c.loop-class.invariant ∙ ap (λ k. concat (take c.loop-class.class ls) ++ k) (sym one) ∙ sym (concat-append (take c.loop-class.class ls) (l ∷ []))
    ∙ ap concat (sym (take_more ls c.loop-class.class [] (omega (arith, c.requires.linked.lists_len, c.loop-class-test.true))))
