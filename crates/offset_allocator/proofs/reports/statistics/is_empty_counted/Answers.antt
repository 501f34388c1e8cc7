use Rattle.offset_allocator.proofs.Common.{ap, arith, refl, sym, ◌∙◌, length, count_used, View, nat_tests}
use Rattle.offset_allocator.proofs.{Sound.shown, Sound.fields_of, Sound.known_sound, Linking.Places.end_place, Always.none_live, Always.some_live}
use Rattle.offset_allocator.proofs.reports.statistics.is_empty_counted.Goals as goal

pub is_used-requires : goal.is_used-requires
is_used-requires g c = (end_place c.allocator.invariant.space).below

pub returns-then-block_count-eq1-clause-empty : goal.returns-then-block_count-eq1-clause-empty
returns-then-block_count-eq1-clause-empty g c =
    let f = fields_of g.T.Tables.cells g.T.Index.NodeIndex.MAX c.allocator.inside in
    let s = c.allocator.invariant in
    let known = known_sound f s (shown f) refl in
    let one = c.block_count.ensures in
    let here = ap (λ (v : View). length v.blocks) c.allocator.view_is in
    let r = none_live (shown f) known.0 c.allocator.inside.store.last s.space.ends (omega (arith, one, here, c.if-block_count-eq1.true)) c.is_used.result (c.is_used.ensures.used _ _ s.space) in
    let live = ap (λ (v : View). count_used v.blocks) c.allocator.view_is in
    (λ t. sym live ∙ r.0 t, λ e. r.1 (live ∙ e))

pub returns-else-block_count-eq1-clause-empty : goal.returns-else-block_count-eq1-clause-empty
returns-else-block_count-eq1-clause-empty g c =
    let known = known_sound (fields_of g.T.Tables.cells g.T.Index.NodeIndex.MAX c.allocator.inside) c.allocator.invariant c.args.allocator.now c.allocator.view_is in
    (λ t. absurd (let n = c.if-block_count-eq1.false in grind (arith, nat_tests)), λ e. absurd (some_live c.args.allocator.now known.0 (λ l. c.if-block_count-eq1.false (c.block_count.ensures ∙ l)) e))
