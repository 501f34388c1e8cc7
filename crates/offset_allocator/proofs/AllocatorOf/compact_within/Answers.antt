use Rattle.offset_allocator.proofs.{Moving.Packed.live_sizes, Sound.AreSound, Sound.Fields, Sound.shown, Sound.fields_of, Sound.known_sound, Linking.Places.placed}
use Rattle.offset_allocator.proofs.Moving.Stepped.{split_filed, split_few, split_steps}
use Rattle.offset_allocator.proofs.Moving.Budgeted.{IsBegun, Run, begun, slides_live, searches_cost, few_left, few_rest, run_few, stops_apart}
use Rattle.offset_allocator.proofs.Common.{◌≡◌, ℕ, ◌+◌, ◌*◌, ◌≤◌, true, List, [], ◌∷◌, ◌++◌, Some, length, refl, sym, ap, subst, ◌∙◌, arith, inl, inr, length-append, not, Block, View, blocks, units, AdmitsBlocks, IsChain, IsCalledWith, true≢false}
use Rattle.offset_allocator.proofs.Common.{count_used, max, free_block, replace, take, SameSpace}
use Rattle.std.specs.List.{FoldsTo}
use Rattle.offset_allocator.specs.Names.{IsTaken}
use Rattle.offset_allocator.specs.Moving.BySteps.{CanFollow, given_up, moves_by, stepped}
use Rattle.offset_allocator.specs.Moving.Budget.{SlidesWithin, first_from}
use Rattle.offset_allocator.proofs.AllocatorOf.compact_within.Goals as goal
use Rattle.offset_allocator.proofs.AllocatorOf.compact_within.{Goals.After-run_from-reach, Goals.After-slide_run, Given.Over}

run_of : (g : Over) (c : After-run_from-reach g)
    → Run (fields_of g.T.Tables.cells g.T.Index.NodeIndex.MAX c.self.inside) c.in-Some.first c.admits_blocks-admits.result c.run_from-reach.result c.args.self.now c.args.step c.args.from c.args.most_units c.args.most_ranges
run_of g c =
    let o : IsBegun c.args.step (blocks (g.T.Tables.cells c.self.inside.store.tables).chain c.self.inside.store.last) c.in-Some.first = begun c.args.step c.args.from 0 _ _ (sym c.first_from.ensures.first ∙ c.in-Some.is) in
    let e = c.run_from-reach.ensures.place _ _ o.front o.first o.rest c.self.invariant.space o.is o.name o.free in
    let is = o.is ∙ ap (λ (l : List Block). o.front ++ o.first ∷ l) e.2 in
    let now = ap (λ (v : View). v.blocks) c.self.view_is in
    record {
      front = o.front;
      first = o.first;
      rest = e.0;
      back = e.1;
      is = is;
      place = placed (subst (λ (l : List Block). IsChain (g.T.Tables.cells c.self.inside.store.tables).chain (g.T.Tables.cells c.self.inside.store.tables).chain.reserved c.self.inside.store.last c.self.inside.store.spare_count l) is c.self.invariant.space) o.name;
      free = o.free;
      end = e.5;
      follows = e.6;
      reached = record {
        is = sym now ∙ is;
        begins = ap (first_from c.args.step c.args.from 0) (sym now) ∙ sym c.first_from.ensures.first ∙ c.in-Some.is ∙ ap Some (sym o.name);
        within = e.3;
        stops = e.4;
      };
      progress = e.7;
    }

pub run_from-reach-requires : goal.run_from-reach-requires
run_from-reach-requires g c =
    let o : IsBegun c.args.step (blocks (g.T.Tables.cells c.self.inside.store.tables).chain c.self.inside.store.last) c.in-Some.first = begun c.args.step c.args.from 0 _ _ (sym c.first_from.ensures.first ∙ c.in-Some.is) in
    record { some = c.requires.some; place = (_, _, o.front, o.first, o.rest, c.self.invariant.space, o.is, o.name, o.free) }

-- what both searches count
counted : (g : Over) (c : After-run_from-reach g)
    → (c.args.self.now.accesses ≤ c.run_from-reach.new.count) × (c.run_from-reach.new.count ≤ c.args.self.now.accesses + (4 * length c.args.self.now.blocks + 3 * length (run_of g c).rest + 2))
    × (c.run_from-reach.new.count ≤ c.args.self.now.accesses + (4 * length c.args.self.now.blocks + 6 * max 1 c.args.most_ranges + 2))
    × (c.args.from ≡ 0 → c.args.self.now.accesses + length c.args.self.now.blocks ≤ c.run_from-reach.new.count)
unfolding run_of
counted g c =
    let o : IsBegun c.args.step (blocks (g.T.Tables.cells c.self.inside.store.tables).chain c.self.inside.store.last) c.in-Some.first = begun c.args.step c.args.from 0 _ _ (sym c.first_from.ensures.first ∙ c.in-Some.is) in
    let e = c.run_from-reach.ensures.place _ _ o.front o.first o.rest c.self.invariant.space o.is o.name o.free in
    let n = searches_cost c.args.most_units c.args.most_ranges _ c.args.self.now c.formed.ensures o.front o.first e.0 e.1 o.rest (ap (λ (v : View). v.blocks) c.self.view_is)
    (ap (λ (u : View). u.accesses) c.self.view_is) o.is e.2 o.free e.3 c.first_from.ensures.accesses e.8 e.9 in
    (n.0, n.1, n.2, λ zero. let least = c.first_from.ensures.accesses_all zero in omega (arith, least, e.8, ap (λ (u : View). u.accesses) c.self.view_is, ap (λ (u : View). length u.blocks) c.self.view_is))

pub returns-then-not-can_follow-clause-accesses : goal.returns-then-not-can_follow-clause-accesses
returns-then-not-can_follow-clause-accesses g c =
    let at = (goal.at.returns-then-not-can_follow-clause-accesses g c).After-run_from-reach in
    let n = counted g at in
    let r = run_of g at in
    let all = ap (λ (l : List Block). length l) r.reached.is in
    (omega (arith, n.0), omega (arith, n.1, all, length-append r.front ((r.first ∷ r.rest) ++ r.back), length-append (r.first ∷ r.rest) r.back))

pub returns-then-not-can_follow-clause-accesses_all : goal.returns-then-not-can_follow-clause-accesses_all
returns-then-not-can_follow-clause-accesses_all g c = (counted g (goal.at.returns-then-not-can_follow-clause-accesses_all g c).After-run_from-reach).3

pub returns-then-not-can_follow-clause-accesses_budget : goal.returns-then-not-can_follow-clause-accesses_budget
returns-then-not-can_follow-clause-accesses_budget g c =
    let n = counted g (goal.at.returns-then-not-can_follow-clause-accesses_budget g c).After-run_from-reach in omega (arith, n.2)

pub returns-then-not-can_follow-clause-step : goal.returns-then-not-can_follow-clause-step
returns-then-not-can_follow-clause-step g c =
    let r = run_of g (goal.at.returns-then-not-can_follow-clause-step g c).After-run_from-reach in
    let no : c.can_follow.result ≡ true → ⊥ = λ e. true≢false (sym e ∙ c.if-not-can_follow.true) in (
      rw (← c.self.view_is) refl,
      refl,
      (
        r.front,
        r.first,
        r.rest,
        r.back,
        r.reached,
        λ can. elim can [
          | inl room ↦ no (c.can_follow.ensures.is.1 (r.follows.1 (inl (c.admits_blocks-admits.ensures.1 (subst (AdmitsBlocks 1) (sym c.self.view_is) room)))))
          | inr freed ↦ no (c.can_follow.ensures.is.1 (r.follows.1 (inr freed)))
        ],
      ),
    )

pub slide_run-requires-clause-place : goal.slide_run-requires-clause-place
slide_run-requires-clause-place g c =
    let r = run_of g (goal.at.slide_run-requires-clause-place g c).After-run_from-reach in
    let f : Fields = fields_of g.T.Tables.cells g.T.Index.NodeIndex.MAX c.self.inside in (
      _,
      r.front,
      r.first,
      r.rest,
      r.back,
      r.place,
      r.end,
      split_few f c.self.invariant c.args.step r.front (r.first ∷ r.rest) r.back r.is,
      split_filed f c.self.invariant c.args.step r.front (r.first ∷ r.rest) r.back r.is,
    )

-- the fields that are left, and what they show
done : (g : Over) (c : After-slide_run g)
    → (r : Run (fields_of g.T.Tables.cells g.T.Index.NodeIndex.MAX c.self.inside) c.in-Some.first c.admits_blocks-admits.result c.run_from-reach.result c.args.self.now c.args.step c.args.from c.args.most_units c.args.most_ranges)
    → (k : ℕ) (f : Fields) → f ≡ record (fields_of g.T.Tables.cells g.T.Index.NodeIndex.MAX c.self.inside) {
      cells = (g.T.Tables.cells c.slide_run.new.store.tables);
      last = c.slide_run.new.store.last;
      count = c.slide_run.new.store.spare_count;
      top = c.slide_run.new.store.top_mask;
      accesses = k;
    }
    → AreSound f × ((p : SlidesWithin c.args.step c.args.from c.args.most_units c.args.most_ranges c.args.self.now (shown f) c.run_from-reach.result.progress)
    × CanFollow c.args.step c.args.self.now (p.first ∷ p.rest)
    × FoldsTo (IsCalledWith g.T.Index.NonMax.NodeIndexNonMax.number (λ f range h. goal.F-step g f range tt h)) c.args.moved.now
    (moves_by c.args.step (units p.front) (units p.front) (p.first ∷ p.rest)) c.slide_run.new.moved)
    × (c.slide_run.new.store.accesses + 11 * count_used (r.first ∷ r.rest) ≤ c.run_from-reach.new.count + 18 * length (r.first ∷ r.rest) + 36)
done g c r k f is =
    let old : Fields = fields_of g.T.Tables.cells g.T.Index.NodeIndex.MAX c.self.inside in
    let t = c.args.step in
    let run : List Block = r.first ∷ r.rest in
    let e = c.slide_run.ensures.place _ r.front r.first r.rest r.back r.place r.end (split_filed old c.self.invariant t r.front run r.back r.is) in
    let can : CanFollow t c.args.self.now run = elim (r.follows.0 (c.can_follow.ensures.is.0 c.if-not-can_follow.false)) [ inl a ↦ inl (subst (AdmitsBlocks 1) c.self.view_is (c.admits_blocks-admits.ensures.0 a)) | inr f ↦ inr f ] in
    let few = few_left t old.limit (shown old) (known_sound old c.self.invariant (shown old) refl).0 refl r.front run r.back r.is (subst (λ (u : View). CanFollow t u run) (sym c.self.view_is) can) in
    let s = split_steps old c.self.invariant t r.front run r.back r.is (ap not r.free) (stops_apart c.args.most_units c.args.most_ranges r.rest r.back r.reached.stops) few (g.T.Tables.cells c.slide_run.new.store.tables)
    c.slide_run.new.store.last c.slide_run.new.store.spare_count e.0 e.3 {accesses = k} c.slide_run.ensures.binned e.5 e.6 in
    let new : Fields = record old {
      cells = (g.T.Tables.cells c.slide_run.new.store.tables);
      last = c.slide_run.new.store.last;
      count = c.slide_run.new.store.spare_count;
      top = c.slide_run.new.store.top_mask;
      accesses = k;
    } in
    let taken : IsTaken (length c.args.self.now.blocks) c.args.self.now.unused e.0 e.1 = subst (λ (u : View). IsTaken (length u.blocks) u.unused e.0 e.1) c.self.view_is
    (subst (λ (l : List Block). IsTaken (length l) (take old.count old.cells.chain.spare) e.0 e.1) (sym r.is) e.2) in
    let view : SameSpace (replace c.args.self.now r.front run (stepped t run ++ free_block e.0 (given_up t run) ∷ []) r.back) (shown new) =
    subst (λ (u : View). SameSpace (replace u r.front run (stepped t run ++ free_block e.0 (given_up t run) ∷ []) r.back) (shown new)) c.self.view_is s.1 in
    let p : SlidesWithin t c.args.from c.args.most_units c.args.most_ranges c.args.self.now (shown new) c.run_from-reach.result.progress = record {
      front = r.front;
      first = r.first;
      rest = r.rest;
      back = r.back;
      reached = r.reached;
      progress = r.progress;
      name = e.0;
      left = e.1;
      taken = taken;
      names = e.4;
      view = view;
    } in
    rw is (s.0, (p, can, e.7), e.8)

pub invariant_of-self-2 : goal.invariant_of-self-2
invariant_of-self-2 g c = c.self.invariant

pub invariant_of-self-3 : goal.invariant_of-self-3
invariant_of-self-3 g c =
    let at = goal.at.invariant_of-self-3 g c in
    (done g at.After-slide_run (run_of g at.After-run_from-reach) 0 _ refl).0

pub returns-clause-live : goal.returns-clause-live
returns-clause-live g c =
    let at = goal.at.returns-clause-live g c in
    slides_live c.args.step c.args.from c.args.most_units c.args.most_ranges _ _ _ (done g at.After-slide_run (run_of g at.After-run_from-reach) 0 _ refl).1.0

pub returns-clause-sizes : goal.returns-clause-sizes
returns-clause-sizes g c =
    let at = goal.at.returns-clause-sizes g c in
    let f : Fields = fields_of g.T.Tables.cells g.T.Index.NodeIndex.MAX c.self.inside in
    let new : Fields = record f {
      cells = (g.T.Tables.cells c.slide_run.new.store.tables);
      last = c.slide_run.new.store.last;
      count = c.slide_run.new.store.spare_count;
      top = c.slide_run.new.store.top_mask;
      accesses = c.slide_run.new.store.accesses;
    } in
    let d = done g at.After-slide_run (run_of g at.After-run_from-reach) c.slide_run.new.store.accesses new refl in
    live_sizes c.args.self.now (shown new) c.formed.ensures (known_sound new d.0 (shown new) refl).0
    (slides_live c.args.step c.args.from c.args.most_units c.args.most_ranges c.args.self.now (shown new) c.run_from-reach.result.progress d.1.0)

pub returns-clause-budget : goal.returns-clause-budget
returns-clause-budget g c =
    let r = run_of g (goal.at.returns-clause-budget g c).After-run_from-reach in
    rw r.progress r.reached.within

pub returns-clause-accesses : goal.returns-clause-accesses
returns-clause-accesses g c =
    let at = goal.at.returns-clause-accesses g c in
    let n = counted g at.After-run_from-reach in
    let r = run_of g at.After-run_from-reach in
    let d = done g at.After-slide_run r 0 _ refl in
    let all = ap (λ (l : List Block). length l) r.reached.is in
    let few = run_few c.args.self.now c.formed.ensures r.front (r.first ∷ r.rest) r.back r.reached.is in
    (omega (arith, n.0, c.slide_run.ensures.accesses_min), omega (arith, n.1, d.2, few, all, length-append r.front ((r.first ∷ r.rest) ++ r.back), length-append (r.first ∷ r.rest) r.back))

pub returns-clause-accesses_all : goal.returns-clause-accesses_all
returns-clause-accesses_all g c zero = let least = (counted g (goal.at.returns-clause-accesses_all g c).After-run_from-reach).3 zero in omega (arith, least, c.slide_run.ensures.accesses_min)

pub returns-clause-accesses_budget : goal.returns-clause-accesses_budget
returns-clause-accesses_budget g c =
    let at = goal.at.returns-clause-accesses_budget g c in
    let n = counted g at.After-run_from-reach in
    let r = run_of g at.After-run_from-reach in
    let d = done g at.After-slide_run r 0 _ refl in
    let few = few_rest c.args.most_units c.args.most_ranges c.args.self.now c.formed.ensures r.front r.first r.rest r.back r.reached.is r.free r.reached.within in
    omega (arith, n.2, d.2, few)

pub returns-clause-step : goal.returns-clause-step
returns-clause-step g c =
    let at = goal.at.returns-clause-step g c in
    inr (done g at.After-slide_run (run_of g at.After-run_from-reach) c.slide_run.new.store.accesses _ refl).1
