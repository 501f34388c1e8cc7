use Rattle.offset_allocator.proofs.Common.{◌≡◌, ℕ, ◌+◌, ◌-◌, ◌∷◌, [], ◌++◌, ◌∙◌, ap, sym, subst, arith, node, Place}
use Rattle.offset_allocator.proofs.Moving.Gaps.{follows, next_node}
use Rattle.offset_allocator.specs.Moving.Gaps.{IsGap}
use Rattle.offset_allocator.proofs.moves.gap.pass.Goals as goal

pub returns-clause-gap : goal.returns-clause-gap
returns-clause-gap g c m p b bs i e named =
    let h = follows i.there e in
    let size : c.args.more ≡ b.size =
    c.requires.more ∙ ap (λ n. (node (g.T.Tables.cells c.args.store.now.tables).chain n).size) (sym named) ∙ next_node p.before p.block b bs h in
    let none : p.block.size + (b.size - c.args.more) ≡ p.block.size = omega (arith, size) in
    let P : Place → Type 0 = λ q. IsGap g.T.Index.NodeIndex.MAX g.T.Index.NodeIndex.number c.pass_part.new.gap (g.T.Tables.cells c.pass_part.new.store.tables).chain m
    c.pass_part.new.store.last c.pass_part.new.store.spare_count q in
    subst (λ (n : ℕ). P (record { before = p.before ++ record b { size = n } ∷ []; block = p.block; after = bs })) size
    (subst (λ (n : ℕ). P (record { before = p.before ++ record b { size = c.args.more } ∷ []; block = record p.block { size = n }; after = bs })) none
    (c.pass_part.ensures.gap m p b bs i e named))
