use Rattle.offset_allocator.proofs.Common.{ℕ, length, ◌≡◌, ◌∙◌, ap, Some, Cells, Block, arith, one, count_named, ◌∷◌, List, used_block}
use Rattle.offset_allocator.proofs.Saving.Backwards.{backed, first_below, some_below, two_length, row_prepended, marks_prepended, made_prepended}
use Rattle.offset_allocator.proofs.Linking.Nodes.{length-put}
use Rattle.offset_allocator.proofs.states.building.prepend.Goals as goal

pub point_back-requires-clause-link : goal.point_back-requires-clause-link
point_back-requires-clause-link g c =
    let r = c.requires.there in
    some_below _ (two_length _ _ _ (g.T.Tables.cells c.set_used.new.self).chain _ _ _ _ _ c.requires.named c.no_link.ensures.link (ap (λ (k : Cells). k.chain) c.set_block.ensures.cells)
    (ap (λ (k : Cells). k.chain) c.set_used.ensures.cells)) (first_below r.2 _ r.3)

pub returns-clause-back : goal.returns-clause-back
returns-clause-back g c o bs h first e =
    let absent : count_named c.args.name bs ≡ 0 = omega (arith, h.marks c.args.name, ap one c.requires.idle) in
    let e₁ = ap (λ (k : Cells). k.chain) c.set_block.ensures.cells in
    let e₂ = ap (λ (k : Cells). k.chain) c.set_used.ensures.cells in
    let two = two_length _ _ _ (g.T.Tables.cells c.set_used.new.self).chain _ _ _ _ _ c.requires.named c.no_link.ensures.link e₁ e₂ in
    let back = backed c.args.name _ c.point_back.ensures.cells (λ z q. rw two (first_below h (Some z) (first ∙ q))) in
    record {
      row = row_prepended _ _ _ _ _ _ _ _ _ c.requires.named c.no_link.ensures.link e₁ e₂ bs absent first back (λ k. omega (arith, h.marks k)) (rw (← e) h.row);
      used = ap (λ (l : List Block). used_block c.args.name c.args.size ∷ l) h.used;
      marks = λ k. omega (arith, marks_prepended _ _ _ _ _ _ _ _ _ c.requires.named c.no_link.ensures.link e₁ e₂ bs absent first back (λ k. omega (arith, h.marks k)) k);
    }

pub returns-clause-made : goal.returns-clause-made
returns-clause-made g c n m h = made_prepended _ _ _ _ _ h c.requires.named c.set_block.ensures.cells c.set_used.ensures.cells
    c.point_back.ensures.nodes c.point_back.ensures.cells c.point_back.ensures.bins

pub set_block-requires : goal.set_block-requires
set_block-requires g c = record { name = c.requires.named; idle = c.requires.idle }

pub set_used-requires : goal.set_used-requires
set_used-requires g c = omega (arith, c.requires.named, ap (λ (k : Cells). length k.chain.nodes) c.set_block.ensures.cells ∙ length-put (g.T.Tables.cells c.args.tables.now).chain c.args.name _)

pub returns-clause-nodes : goal.returns-clause-nodes
returns-clause-nodes g c =
    let count : Cells → ℕ = λ k. length k.chain.nodes in
    c.point_back.ensures.nodes ∙ ap count c.set_used.ensures.cells ∙ length-put (g.T.Tables.cells c.set_block.new.self).chain c.args.name _ ∙ ap count c.set_block.ensures.cells
    ∙ length-put (g.T.Tables.cells c.args.tables.now).chain c.args.name _
