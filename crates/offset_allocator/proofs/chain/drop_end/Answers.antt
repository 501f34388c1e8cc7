use Rattle.offset_allocator.proofs.{Linking.Places.at_place, Linking.Places.after_fits, Linking.Dropped.next_is, Linking.Dropped.end_node, Linking.Dropped.joined, Linking.Dropped.joined_last}
use Rattle.offset_allocator.proofs.Common.{◌≡◌, ℕ, sym, ap, subst, ◌∙◌, arith, [], Node, HasPlace, take}
use Rattle.offset_allocator.proofs.chain.drop_end.Goals as goal

pub overflow_add-kept : goal.overflow_add-kept
overflow_add-kept g c =
    let r = c.requires.place in
    omega (arith, c.size-kept.ensures.cell, r.6, (end_node r.1 r.2 r.3 r.4).1, after_fits r.4 (next_is r.1 r.2 r.3 r.4))

pub coalesce_after-requires-clause-next : goal.coalesce_after-requires-clause-next
coalesce_after-requires-clause-next g c = let r = c.requires.place in next_is r.1 r.2 r.3 r.4

pub coalesce_after-requires-clause-free : goal.coalesce_after-requires-clause-free
coalesce_after-requires-clause-free g c = let r = c.requires.place in (end_node r.1 r.2 r.3 r.4).0 ∙ r.5

pub coalesce_after-requires-clause-whole : goal.coalesce_after-requires-clause-whole
coalesce_after-requires-clause-whole g c = let r = c.requires.place in omega (arith, c.size-kept.ensures.cell, r.6, (end_node r.1 r.2 r.3 r.4).1)

pub trim-requires : goal.trim-requires
trim-requires g c = let r = c.requires.place in record { place = (_, _, _, _, joined r.1 r.2 r.3 (c.coalesce_after.ensures.place r.0 _ r.4) r.5) }

pub returns-clause-place : goal.returns-clause-place
returns-clause-place g c m before a b h free =
    let there = c.coalesce_after.ensures.place m _ h in
    let kept : c.size-kept.result ≡ a.size = c.size-kept.ensures.cell ∙ ap (λ (v : Node). v.size) (at_place h) in
    subst (λ (l : ℕ). HasPlace (g.T.Tables.cells c.trim.new.tables).chain m l c.coalesce_after.new.store.spare_count c.args.previous (record { before = before; block = a; after = [] }))
    (sym (joined_last before a b there free))
    (subst (λ (n : ℕ). HasPlace (g.T.Tables.cells c.trim.new.tables).chain m c.args.previous c.coalesce_after.new.store.spare_count c.args.previous
    (record { before = before; block = record a { size = n }; after = [] })) kept
    (c.trim.ensures.place m _ before _ (joined before a b there free) (omega (arith, kept))))

pub returns-clause-last : goal.returns-clause-last
returns-clause-last g c = let r = c.requires.place in joined_last r.1 r.2 r.3 (c.coalesce_after.ensures.place r.0 _ r.4) r.5

pub returns-clause-unused : goal.returns-clause-unused
returns-clause-unused g c = ap (take _) c.trim.ensures.spare ∙ c.coalesce_after.ensures.unused
