use Rattle.offset_allocator.proofs.Common.{◌≡◌, ◌∙◌, ap, sym, subst, false, arith, Cells, ChainCells, node, push, bins_in, IsUnlisted, IsBinned}
use Rattle.offset_allocator.proofs.{Classes.down_small, Saving.Freed.chain_freed, Saving.Marks.use_here, Saving.Marks.use_spare, Filing.Uses.binned_marked}
use Rattle.offset_allocator.proofs.states.building.free_name.Goals as goal
use Rattle.offset_allocator.proofs.states.building.free_name.{Goals.After-set_used, Given.Over}

marked : (g : Over) (c : After-set_used g)
    → IsBinned g.T.Index.NodeIndex.MAX (g.T.Tables.cells c.set_used.new.self).bins c.args.store.now.top_mask
    × (bins_in g.T.Index.NodeIndex.MAX (g.T.Tables.cells c.set_used.new.self).bins ≡ bins_in g.T.Index.NodeIndex.MAX (g.T.Tables.cells c.args.store.now.tables).bins)
marked g c = binned_marked c.args.name _ c.requires.binned c.requires.unlisted (ap (λ (v : Cells). v.bins) c.set_used.ensures.cells)

pub push-requires-clause-binned : goal.push-requires-clause-binned
push-requires-clause-binned g c = (marked g (goal.at.push-requires-clause-binned g c).After-set_used).0

pub push-requires-clause-idle : goal.push-requires-clause-idle
push-requires-clause-idle g c = use_here (g.T.Tables.cells c.args.store.now.tables) (g.T.Tables.cells c.set_used.new.self) c.args.name false c.requires.named
    (ap (λ (v : Cells). v.chain) c.set_used.ensures.cells)

pub push-requires-clause-classed : goal.push-requires-clause-classed
push-requires-clause-classed g c = omega (arith, down_small (node (g.T.Tables.cells c.args.store.now.tables).chain c.args.name).size, c.requires.class)

pub push-requires-clause-unlisted : goal.push-requires-clause-unlisted
push-requires-clause-unlisted g c = subst (IsUnlisted c.args.name) (sym (marked g (goal.at.push-requires-clause-unlisted g c).After-set_used).1) c.requires.unlisted

pub returns-clause-chain : goal.returns-clause-chain
returns-clause-chain g c m xs bs h there =
    let e = c.push.ensures.chain in
    rw (e.0, e.1, e.2) (chain_freed xs bs h there c.requires.named (ap (λ (v : Cells). v.chain) c.set_used.ensures.cells))

pub returns-clause-lists : goal.returns-clause-lists
returns-clause-lists g c =
    c.push.ensures.lists ∙ ap (push c.args.class c.args.name) (marked g (goal.at.returns-clause-lists g c).After-set_used).1

pub returns-clause-same : goal.returns-clause-same
returns-clause-same g c =
    let e = c.push.ensures.chain in (
      e.1,
      e.2,
      ap (λ (k : ChainCells). k.spare) e.0 ∙ use_spare (g.T.Tables.cells c.args.store.now.tables) (g.T.Tables.cells c.set_used.new.self) c.args.name false c.requires.named
          (ap (λ (v : Cells). v.chain) c.set_used.ensures.cells),
    )
