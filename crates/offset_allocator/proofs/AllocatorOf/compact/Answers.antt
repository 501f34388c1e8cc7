use Rattle.offset_allocator.proofs.{Sound.AreSound, Sound.Fields, Sound.shown, Sound.fields_of, Sound.known_sound, Moving.Nearest.newest_few, Moving.Starts.until_first, Moving.Starts.until_none}
use Rattle.offset_allocator.proofs.{Moving.Packed.compacts_sizes, Linking.Places.at_place, Linking.Places.kept_place, Classes.down_small, Fresh.empty_unlisted, Linking.Names.kept_unused}
use Rattle.offset_allocator.proofs.Common.{◌++◌, ◌≡◌, ℕ, ◌+◌, ◌*◌, ◌≤◌, List, Block, length, length-append, ◌∷◌, [], refl, sym, ap, subst, ◌∙◌, arith, Place, View, units, free_sizes}
use Rattle.offset_allocator.proofs.Common.{Node, bins_in, blocks, live, moves, KeepsSizes, Compacts, common_steps}
use Rattle.offset_allocator.proofs.Moving.Compacted.{first_filed, first_held, packs}
use Rattle.offset_allocator.proofs.Moving.Compacting.{IsFirst, first_is, packed, compacts_live, stays_packed}
use Rattle.offset_allocator.proofs.Moving.OneStep.{moves_one}
use Rattle.offset_allocator.specs.{Moving.BySteps.used_up, Moving.Compacting.until_free, Names.names_of}
use Rattle.offset_allocator.proofs.AllocatorOf.compact.Goals as goal
use Rattle.offset_allocator.proofs.AllocatorOf.compact.{Goals.In-Some, Goals.After-push, Given.Over}

pub returns-in_default-clause-moved : goal.returns-in_default-clause-moved
returns-in_default-clause-moved g c =
    let r = packed (blocks (g.T.Tables.cells c.self.inside.store.tables).chain c.self.inside.store.last) (sym c.first_free.ensures.first ∙ c.in_default.is) in
    let none : moves 0 0 c.args.self.now.blocks ≡ [] = ap (λ (u : View). moves 0 0 u.blocks) (sym c.self.view_is) ∙ r.moves 0 in
    rw none refl

pub returns-in_default-clause-step : goal.returns-in_default-clause-step
returns-in_default-clause-step g c =
    let f : Fields = fields_of g.T.Tables.cells g.T.Index.NodeIndex.MAX c.self.inside in
    let P : View → Type 0 = λ u. Compacts u (shown (record f { accesses = c.first_free.new.count })) in
    subst P c.self.view_is (stays_packed f c.self.invariant c.first_free.new.count (sym c.first_free.ensures.first ∙ c.in_default.is))

-- the first free block
first : (g : Over) (c : In-Some g) → IsFirst (blocks (g.T.Tables.cells c.self.inside.store.tables).chain c.self.inside.store.last) c.in-Some.first
first g c = first_is _ _ (sym c.first_free.ensures.first ∙ c.in-Some.is)

pub size-size-requires : goal.size-size-requires
size-size-requires g c =
    let f : Fields = fields_of g.T.Tables.cells g.T.Index.NodeIndex.MAX c.self.inside in
    let o = first g (goal.at.size-size-requires g c).In-Some in
    (first_held f c.self.invariant o).below

pub to_front-hole-requires-clause-place : goal.to_front-hole-requires-clause-place
to_front-hole-requires-clause-place g c =
    let f : Fields = fields_of g.T.Tables.cells g.T.Index.NodeIndex.MAX c.self.inside in
    let o = first g (goal.at.to_front-hole-requires-clause-place g c).In-Some in
    (_, _, _, o.place.after, [], _, kept_place c.empty.ensures.chain (first_held f c.self.invariant o), o.idle, refl, first_filed f c.self.invariant o)

pub push-requires-clause-named : goal.push-requires-clause-named
push-requires-clause-named g c =
    let f : Fields = fields_of g.T.Tables.cells g.T.Index.NodeIndex.MAX c.self.inside in
    let o = first g (goal.at.push-requires-clause-named g c).In-Some in
    let e = c.to_front-hole.ensures.place _ _ _ o.place.after [] _ (kept_place c.empty.ensures.chain (first_held f c.self.invariant o)) o.idle refl (first_filed f c.self.invariant o) in
    e.0.below

pub push-requires-clause-idle : goal.push-requires-clause-idle
push-requires-clause-idle g c =
    let f : Fields = fields_of g.T.Tables.cells g.T.Index.NodeIndex.MAX c.self.inside in
    let o = first g (goal.at.push-requires-clause-idle g c).In-Some in
    let e = c.to_front-hole.ensures.place _ _ _ o.place.after [] _ (kept_place c.empty.ensures.chain (first_held f c.self.invariant o)) o.idle refl (first_filed f c.self.invariant o) in
    ap (λ (v : Node). v.used) (at_place e.0)

pub push-requires-clause-classed : goal.push-requires-clause-classed
push-requires-clause-classed g c = omega (arith, down_small c.to_front-hole.result.size, c.uint_to_float_round_down-class.ensures.is)

pub push-requires-clause-unlisted : goal.push-requires-clause-unlisted
push-requires-clause-unlisted g c = empty_unlisted c.to_front-hole.result.name (c.to_front-hole.ensures.bins refl ∙ c.empty.ensures.lists)

-- the fields that are left, and what they show
done : (g : Over) (c : After-push g) (k : ℕ) (f : Fields) → f ≡ record (fields_of g.T.Tables.cells g.T.Index.NodeIndex.MAX c.self.inside) {
  cells = (g.T.Tables.cells c.push.new.store.tables);
  last = c.push.new.store.last;
  count = c.push.new.store.spare_count;
  top = c.push.new.store.top_mask;
  accesses = k;
}
    → AreSound f × Compacts (shown (fields_of g.T.Tables.cells g.T.Index.NodeIndex.MAX c.self.inside)) (shown f)
done g c k new is =
    let f : Fields = fields_of g.T.Tables.cells g.T.Index.NodeIndex.MAX c.self.inside in
    let o : IsFirst (blocks (g.T.Tables.cells c.self.inside.store.tables).chain c.self.inside.store.last) c.in-Some.first = first_is _ _ (sym c.first_free.ensures.first ∙ c.in-Some.is) in
    let e = c.to_front-hole.ensures.place _ _ _ o.place.after [] _ (kept_place c.empty.ensures.chain (first_held f c.self.invariant o)) o.idle refl (first_filed f c.self.invariant o) in
    let empty = c.to_front-hole.ensures.bins refl ∙ c.empty.ensures.lists in
    rw is (packs f c.self.invariant o (g.T.Tables.cells c.push.new.store.tables) _ _ c.to_front-hole.result.name c.to_front-hole.result.size (kept_place c.push.ensures.chain e.0) e.1 e.4 {accesses = k}
    c.push.ensures.binned (rw (c.uint_to_float_round_down-class.ensures.is, empty) at c.push.ensures.lists) c.to_front-hole.ensures.name
    (kept_unused c.push.ensures.chain ∙ e.5 ∙ ap (λ (u : List ℕ). u ++ names_of (used_up 1 o.place.after)) (kept_unused c.empty.ensures.chain))
    (sym c.first_free.ensures.first ∙ c.in-Some.is))

pub invariant_of-self-2 : goal.invariant_of-self-2
invariant_of-self-2 g c = (done g (goal.at.invariant_of-self-2 g c).After-push 0 _ refl).0

pub returns-clause-live : goal.returns-clause-live
returns-clause-live g c =
    let P : View → Type 0 = λ u. live (blocks (g.T.Tables.cells c.push.new.store.tables).chain c.push.new.store.last) ≡ live u.blocks in
    subst P c.self.view_is (compacts_live _ _ (done g (goal.at.returns-clause-live g c).After-push 0 _ refl).1)

pub returns-clause-moved : goal.returns-clause-moved
returns-clause-moved g c =
    let f : Fields = fields_of g.T.Tables.cells g.T.Index.NodeIndex.MAX c.self.inside in
    let o = first g (goal.at.returns-clause-moved g c).In-Some in
    let p : Place = o.place in
    let e = c.to_front-hole.ensures.place _ _ _ o.place.after [] _ (kept_place c.empty.ensures.chain (first_held f c.self.invariant o)) o.idle refl (first_filed f c.self.invariant o) in
    let from : 0 + (units p.before + p.block.size) ≡ units p.before + p.block.size = omega arith in
    let to : 0 + units p.before ≡ units p.before = omega arith in
    let same : moves 0 0 c.args.self.now.blocks ≡ moves (units p.before + p.block.size) (units p.before) p.after = grind (arith, common_steps) in
    rw (same, ← moves_one (units p.before + p.block.size) (units p.before) p.after) e.2

-- the accesses, where a block is free
counted : (g : Over) (c : After-push g) → (c.args.self.now.accesses + 2 * length c.args.self.now.blocks + 267 ≤ c.push.new.store.accesses)
    × (c.push.new.store.accesses ≤ c.args.self.now.accesses + (10 * length c.args.self.now.blocks + 384))
counted g c =
    let f : Fields = fields_of g.T.Tables.cells g.T.Index.NodeIndex.MAX c.self.inside in
    let o : IsFirst (blocks (g.T.Tables.cells c.self.inside.store.tables).chain c.self.inside.store.last) c.in-Some.first = first_is _ _ (sym c.first_free.ensures.first ∙ c.in-Some.is) in
    let p : Place = o.place in
    let e = c.to_front-hole.ensures.place _ _ _ o.place.after [] _ (kept_place c.empty.ensures.chain (first_held f c.self.invariant o)) o.idle refl (first_filed f c.self.invariant o) in
    let n = ap (λ (l : List Block). length l) o.is ∙ length-append p.before (p.block ∷ p.after) in
    let until = ap until_free o.is ∙ until_first p.before p.after p.block o.used o.idle in
    let all = ap (λ (u : View). length u.blocks) c.self.view_is in
    let old = ap (λ (u : View). u.accesses) c.self.view_is in
    let few = newest_few 32 (bins_in g.T.Index.NodeIndex.MAX (g.T.Tables.cells c.self.inside.store.tables).bins) in (
      omega (
        arith,
        n,
        until,
        all,
        old,
        e.8,
        c.search_start-start.ensures.accesses,
        c.first_free.ensures.accesses,
        c.first_free.ensures.least,
        c.size-size.ensures.accesses,
        c.empty.ensures.accesses,
        c.push.ensures.accesses,
      ),
      omega (
        arith,
        n,
        all,
        old,
        e.7 refl,
        few,
        c.search_start-start.ensures.accesses,
        c.first_free.ensures.accesses,
        c.first_free.ensures.most,
        c.size-size.ensures.accesses,
        c.empty.ensures.accesses,
        c.push.ensures.accesses,
      ),
    )

pub returns-clause-accesses : goal.returns-clause-accesses
returns-clause-accesses g c = let k = counted g (goal.at.returns-clause-accesses g c).After-push in (omega (arith, k.0), k.1)

pub returns-clause-accesses_some : goal.returns-clause-accesses_some
returns-clause-accesses_some g c some = (counted g (goal.at.returns-clause-accesses_some g c).After-push).0

pub returns-in_default-clause-accesses : goal.returns-in_default-clause-accesses
returns-in_default-clause-accesses g c =
    let until = until_none (blocks (g.T.Tables.cells c.self.inside.store.tables).chain c.self.inside.store.last) (sym c.first_free.ensures.first ∙ c.in_default.is) in
    let all = ap (λ (u : View). length u.blocks) c.self.view_is in
    let old = ap (λ (u : View). u.accesses) c.self.view_is in
    let few = newest_few 32 (bins_in g.T.Index.NodeIndex.MAX (g.T.Tables.cells c.self.inside.store.tables).bins) in (
      omega (arith, until, all, old, c.search_start-start.ensures.accesses, c.first_free.ensures.accesses, c.first_free.ensures.least),
      omega (arith, all, old, few, c.search_start-start.ensures.accesses, c.first_free.ensures.accesses, c.first_free.ensures.most),
    )

pub returns-clause-step : goal.returns-clause-step
returns-clause-step g c =
    let P : View → Type 0 = λ u. Compacts u (shown (record (fields_of g.T.Tables.cells g.T.Index.NodeIndex.MAX c.self.inside) {
      cells = (g.T.Tables.cells c.push.new.store.tables);
      last = c.push.new.store.last;
      count = c.push.new.store.spare_count;
      top = c.push.new.store.top_mask;
      accesses = c.push.new.store.accesses;
    })) in
    subst P c.self.view_is (done g (goal.at.returns-clause-step g c).After-push c.push.new.store.accesses _ refl).1

pub returns-in_default-clause-sizes : goal.returns-in_default-clause-sizes
returns-in_default-clause-sizes g c = grind (arith, compacts_sizes, known_sound, stays_packed)

pub returns-clause-sizes : goal.returns-clause-sizes
returns-clause-sizes g c =
    let f : Fields = fields_of g.T.Tables.cells g.T.Index.NodeIndex.MAX c.self.inside in
    let left : View = shown (record f {
      cells = (g.T.Tables.cells c.push.new.store.tables);
      last = c.push.new.store.last;
      count = c.push.new.store.spare_count;
      top = c.push.new.store.top_mask;
      accesses = c.push.new.store.accesses;
    }) in
    let P : View → Type 0 = λ u. KeepsSizes u left in
    subst P c.self.view_is (compacts_sizes (shown f) left (known_sound f c.self.invariant (shown f) refl).0 (done g (goal.at.returns-clause-sizes g c).After-push c.push.new.store.accesses _ refl).1)

pub returns-in_default-clause-accesses_some : goal.returns-in_default-clause-accesses_some
returns-in_default-clause-accesses_some g c some =
    let r = packed (blocks (g.T.Tables.cells c.self.inside.store.tables).chain c.self.inside.store.last) (sym c.first_free.ensures.first ∙ c.in_default.is) in
    absurd (some (ap (λ (u : View). free_sizes u.blocks) (sym c.self.view_is) ∙ r.sizes))
