use Rattle.offset_allocator.proofs.Common.{◌∙◌, ℕ, ap, ap₂, subst, sym, arith, Cells, View, view_of, IsSound}
use Rattle.offset_allocator.proofs.Raised.{shown_under, sound_under}
use Rattle.offset_allocator.proofs.AllocatorOf.raised.Goals as goal

pub invariant_of-result : goal.invariant_of-result
invariant_of-result g c =
    subst (λ (k : Cells). IsSound g.T.Index.NodeIndex.MAX c.self.inside.size c.args.max_allocs k c.self.inside.store.last c.self.inside.store.spare_count c.self.inside.store.top_mask c.self.inside.free_total)
    (sym c.in_ok-tables.ensures.cells)
    (sound_under c.self.invariant c.args.max_allocs (omega (arith, c.requires.larger, ap (λ (v : View). v.max_allocs) c.self.view_is)) c.requires.limit_max)

pub returns : goal.returns
returns g c =
    let inside = c.self.inside in
    ap (λ (k : Cells). view_of g.T.Index.NodeIndex.MAX inside.size c.args.max_allocs k inside.store.last inside.store.spare_count c.new.result) c.in_ok-tables.ensures.cells
    ∙ shown_under c.self.invariant c.args.max_allocs c.new.result
    ∙ ap₂ (λ (v : View) (k : ℕ). record v { max_allocs = c.args.max_allocs; accesses = k }) c.self.view_is c.new.ensures
