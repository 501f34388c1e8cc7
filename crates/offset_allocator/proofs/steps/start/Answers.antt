use Rattle.offset_allocator.proofs.Common.{◌≡◌, ap, ◌∙◌, arith, ℕ, List, [], replicate, push, bins_in, IsSound, view_of, common_steps}
use Rattle.offset_allocator.proofs.{Classes.down_small, Fresh.empty_unlisted, Fresh.first_idle, Fresh.fresh, Fresh.started}
use Rattle.offset_allocator.proofs.steps.start.Goals as goal
use Rattle.offset_allocator.proofs.steps.start.{Goals.After-push, Given.Over}

begun : (g : Over) (c : After-push g) → IsSound g.T.Index.NodeIndex.MAX c.args.size c.args.max_allocs (g.T.Tables.cells c.push.new.store.tables) 0 0 c.push.new.store.top_mask c.args.size
    × (view_of g.T.Index.NodeIndex.MAX c.args.size c.args.max_allocs (g.T.Tables.cells c.push.new.store.tables) 0 0 0 ≡ fresh c.args.size c.args.max_allocs)
begun g c =
    let empty : bins_in g.T.Index.NodeIndex.MAX (g.T.Tables.cells c.start.new.tables).bins ≡ replicate 256 [] = rw c.start.ensures.bins c.requires.empty in
    let bins = c.push.ensures.lists ∙ ap (λ (o : List (List ℕ)). push c.uint_to_float_round_down.result 0 o) empty
    ∙ ap (λ (k : ℕ). push k 0 (replicate 256 [])) c.uint_to_float_round_down.ensures.is in
    started g.T.Index.NodeIndex.MAX c.args.max_allocs c.args.size (g.T.Tables.cells c.push.new.store.tables) c.push.new.store.top_mask (omega arith) (omega arith) (omega arith)
    (rw c.push.ensures.chain.0 c.start.ensures.reserved) (rw c.push.ensures.chain.0 c.start.ensures.space) (rw c.push.ensures.chain.0 c.start.ensures.blocks) c.push.ensures.binned bins

pub returns-clause-sound : goal.returns-clause-sound
returns-clause-sound g c = (begun g (goal.at.returns-clause-sound g c).After-push).0

pub returns-clause-view : goal.returns-clause-view
returns-clause-view g c = (begun g (goal.at.returns-clause-view g c).After-push).1

pub push-requires : goal.push-requires
push-requires g c = grind (arith, common_steps, first_idle, down_small, empty_unlisted)
