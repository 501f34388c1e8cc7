use Rattle.offset_allocator.proofs.{Classes.down_small, Filing.Filed.unlisted, Linking.Names.kept_unused, Linking.Names.next_taken, Linking.Names.ready_place, Linking.Places.at_place, Linking.Places.kept_place}
use Rattle.offset_allocator.proofs.Moving.Stepped.{opened_place}
use Rattle.offset_allocator.proofs.Common.{◌≡◌, ◌+◌, ℕ, true, refl, units, List, ◌∷◌, ◌++◌, length, sym, ap, ap₂, subst, ◌∙◌, arith, Node, Block, HasPlace, AreInBins, bins_in, down, push, free_block}
use Rattle.offset_allocator.specs.Moving.BySteps.{AreFiled, given_up, stepped}
use Rattle.offset_allocator.specs.{Names.IsTaken, Store.unused_of}
use Rattle.offset_allocator.proofs.moves.slide.slide_run.Goals as goal
use Rattle.offset_allocator.proofs.moves.slide.slide_run.{Goals.After-split_before-name, Given.Over}

-- the block of no units, and the bins
held : (g : Over) (c : After-split_before-name g) (limit : ℕ) (front : List Block) (b : Block) (rest back : List Block)
    → HasPlace (g.T.Tables.cells c.args.store.now.tables).chain limit c.args.store.now.last c.args.store.now.spare_count c.args.first
    (record { before = front; block = b; after = rest ++ back })
    → HasPlace (g.T.Tables.cells c.split_before-name.new.store.tables).chain limit c.split_before-name.new.store.last c.split_before-name.new.store.spare_count c.split_before-name.result
    (record { before = front; block = free_block c.split_before-name.result 0; after = b ∷ (rest ++ back) })
held g c limit front b rest back h =
    opened_place c.split_before-name.result front b (rest ++ back) (c.split_before-name.ensures.place _ _ (ready_place c.ensure_spare.ensures.readies h))

same_bins : (g : Over) (c : After-split_before-name g)
    → bins_in g.T.Index.NodeIndex.MAX (g.T.Tables.cells c.split_before-name.new.store.tables).bins ≡ bins_in g.T.Index.NodeIndex.MAX (g.T.Tables.cells c.args.store.now.tables).bins
same_bins g c = ap (bins_in g.T.Index.NodeIndex.MAX) c.split_before-name.ensures.bins.0 ∙ (c.ensure_spare.ensures.readies.bins _ c.requires.binned).1

filed : (g : Over) (c : After-split_before-name g) (bs : List Block) → AreInBins bs (bins_in g.T.Index.NodeIndex.MAX (g.T.Tables.cells c.args.store.now.tables).bins)
    → AreFiled true bs (bins_in g.T.Index.NodeIndex.MAX (g.T.Tables.cells c.args.store.now.tables).bins) (bins_in g.T.Index.NodeIndex.MAX (g.T.Tables.cells c.split_before-name.new.store.tables).bins)
filed g c bs h = (h, c.requires.binned.linked.lists_len, λ _. sym (same_bins g c))

pub split_before-name-requires-clause-place : goal.split_before-name-requires-clause-place
split_before-name-requires-clause-place g c = (_, _, ready_place c.ensure_spare.ensures.readies c.requires.place.5)

pub to_front-hole-requires-clause-place : goal.to_front-hole-requires-clause-place
to_front-hole-requires-clause-place g c =
    let a = (goal.at.to_front-hole-requires-clause-place g c).After-split_before-name in
    let r = c.requires.place in
    (_, r.1, _, r.2 ∷ r.3, r.4, _, held g a _ r.1 r.2 r.3 r.4 r.5, refl, r.6, filed g a _ r.8)

pub to_front-hole-requires-clause-binned : goal.to_front-hole-requires-clause-binned
to_front-hole-requires-clause-binned g c = rw (c.split_before-name.ensures.bins.0, c.split_before-name.ensures.bins.1) (c.ensure_spare.ensures.readies.bins _ c.requires.binned).0

pub push-requires-clause-named : goal.push-requires-clause-named
push-requires-clause-named g c =
    let a = (goal.at.push-requires-clause-named g c).After-split_before-name in
    let r = c.requires.place in
    (c.to_front-hole.ensures.place _ r.1 _ (r.2 ∷ r.3) r.4 _ (held g a _ r.1 r.2 r.3 r.4 r.5) refl r.6 (filed g a _ r.8)).0.below

pub push-requires-clause-idle : goal.push-requires-clause-idle
push-requires-clause-idle g c =
    let a = (goal.at.push-requires-clause-idle g c).After-split_before-name in
    let r = c.requires.place in
    ap (λ (v : Node). v.used) (at_place (c.to_front-hole.ensures.place _ r.1 _ (r.2 ∷ r.3) r.4 _ (held g a _ r.1 r.2 r.3 r.4 r.5) refl r.6 (filed g a _ r.8)).0)

pub push-requires-clause-classed : goal.push-requires-clause-classed
push-requires-clause-classed g c = omega (arith, down_small c.to_front-hole.result.size, c.uint_to_float_round_down.ensures.is)

pub push-requires-clause-unlisted : goal.push-requires-clause-unlisted
push-requires-clause-unlisted g c =
    let a = (goal.at.push-requires-clause-unlisted g c).After-split_before-name in
    let r = c.requires.place in
    let e = c.to_front-hole.ensures.place _ r.1 _ (r.2 ∷ r.3) r.4 _ (held g a _ r.1 r.2 r.3 r.4 r.5) refl r.6 (filed g a _ r.8) in
    unlisted e.0 _ (subst (λ (ls : List (List ℕ)). AreInBins ((r.1 ++ stepped c.args.step (r.2 ∷ r.3)) ++ r.4) ls) (sym (e.3 refl)) e.4)

pub to_front-hole-requires-clause-size : goal.to_front-hole-requires-clause-size
to_front-hole-requires-clause-size g c =
    let a = (goal.at.to_front-hole-requires-clause-size g c).After-split_before-name in
    let r = c.requires.place in
    sym (ap (λ (v : Node). v.size) (at_place (held g a _ r.1 r.2 r.3 r.4 r.5)))

pub returns-clause-place : goal.returns-clause-place
returns-clause-place g c limit front b rest back h ends lists =
    let a = (goal.at.returns-clause-place g c).After-split_before-name in
    let t = c.args.step in
    let run : List Block = b ∷ rest in
    let name = c.to_front-hole.result.name in
    let e = c.to_front-hole.ensures.place _ front _ run back _ (held g a limit front b rest back h) refl ends (filed g a _ lists) in
    let given : c.to_front-hole.result.size ≡ given_up t run = omega (arith, e.1) in
    let from : units front + 0 ≡ units front = omega arith in (
      name,
      unused_of g.T.Tables.cells c.split_before-name.new.store,
      subst (λ x. IsTaken (length (front ++ b ∷ (rest ++ back))) (unused_of g.T.Tables.cells c.args.store.now) x (unused_of g.T.Tables.cells c.split_before-name.new.store)) (sym c.to_front-hole.ensures.name)
          (next_taken c.split_before-name.result _ _ h c.ensure_spare.ensures.unused c.split_before-name.ensures.unused),
      subst (λ n. HasPlace (g.T.Tables.cells c.push.new.store.tables).chain limit c.push.new.store.last c.push.new.store.spare_count name
          (record { before = front ++ stepped t run; block = free_block name n; after = back })) given (kept_place c.push.ensures.chain e.0),
      kept_unused c.push.ensures.chain ∙ e.5,
      c.push.ensures.lists ∙ ap₂ (λ n l. push n name l) (c.uint_to_float_round_down.ensures.is ∙ ap down given) (e.3 refl),
      e.4,
      rw from at e.2,
      omega (
        arith,
        e.6,
        c.ensure_spare.ensures.accesses,
        c.split_before-name.ensures.accesses,
        c.push.ensures.accesses,
      ),
    )
