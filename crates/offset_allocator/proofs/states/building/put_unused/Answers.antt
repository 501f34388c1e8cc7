use Rattle.offset_allocator.proofs.Common.{true, ◌≡◌, ◌∙◌, ◌++◌, ◌∷◌, [], ◌<◌, ap, refl, length, take, arith, Cells, ChainCells, Node, node, ◌+◌, false}
use Rattle.offset_allocator.proofs.{Saving.Marks.mark_added, Saving.Marks.stacked, Saving.Marks.stack_top, Saving.Marks.use_spare, Saving.Marks.made_kept, Saving.Alike.node-with_spare}
use Rattle.offset_allocator.proofs.{Linking.Nodes.nodes-with_spare}
use Rattle.offset_allocator.proofs.states.building.put_unused.Goals as goal

pub returns-clause-back : goal.returns-clause-back
returns-clause-back g c o bs xs h e =
    let old = (g.T.Tables.cells c.args.tables.now).chain in
    let one = (g.T.Tables.cells c.set_spare.new.self).chain in
    let name = c.args.name in
    let number = c.link_to.ensures.number in
    let e₁ = ap (λ (k : Cells). k.chain) c.set_spare.ensures.cells in
    let e₂ = ap (λ (k : Cells). k.chain) c.set_used.ensures.cells in
    let named : name < length one.nodes = omega (
      arith,
      c.requires.named,
      ap (λ (k : ChainCells). length k.nodes) e₁,
      ap length (nodes-with_spare old c.args.place (g.T.Index.NodeIndex.number c.link_to.result)),
    ) in
    let idle : (node one name).used ≡ false = ap (λ (k : ChainCells). (node k name).used) e₁
    ∙ ap (λ (n : Node). n.used) (node-with_spare old c.args.place (g.T.Index.NodeIndex.number c.link_to.result) name) ∙ c.requires.idle in (
      mark_added (g.T.Tables.cells c.set_spare.new.self) (g.T.Tables.cells c.set_used.new.self) name true named e₂ refl idle
          (stacked (g.T.Tables.cells c.args.tables.now) (g.T.Tables.cells c.set_spare.new.self) c.args.place _ e₁ h),
      ap (take (c.args.place + 1)) (use_spare (g.T.Tables.cells c.set_spare.new.self) (g.T.Tables.cells c.set_used.new.self) name true named e₂)
          ∙ stack_top _ _ c.args.place _ e₁ (omega (arith, c.requires.place, c.shape.ensures.spare))
          ∙ ap (λ l. l ++ g.T.Index.NodeIndex.number c.link_to.result ∷ []) e ∙ ap (λ n. xs ++ n ∷ []) number,
    )

pub returns-clause-made : goal.returns-clause-made
returns-clause-made g c n m h = made_kept _ _ _ _ _ h c.set_spare.ensures.cells c.set_used.ensures.cells
