use Rattle.offset_allocator.proofs.Common.{◌≡◌, ◌≢◌, ◌↔◌, ◌+◌, ◌*◌, ◌<◌, ◌≤◌, ◌∙◌, true, List, [], ◌∷◌, Some, length, refl, sym, ap, subst, arith, inl, inr, length-append, true≢false, not-true, not-false, ◌^◌, Block, View, blocks, units, count_used, used_units, value, down, AdmitsBlocks}
use Rattle.offset_allocator.proofs.{Classes.down_small, Classes.value_down, Tallies.units-append}
use Rattle.offset_allocator.proofs.Moving.{Budgeted.none_left, CompactCosts.still_grants, Done.steps_grant, PassDone.from_start, Stepped.IsWhole, Stepped.stepped_units, Stepped.whole_is}
use Rattle.offset_allocator.specs.Moving.BySteps.{given_up, run_by, used_up}
use Rattle.offset_allocator.specs.Requests.{CanGrant}
use Rattle.offset_allocator.proofs.moves.compact_cost.compact_cost_by_counted.Given.{Over}
use Rattle.offset_allocator.proofs.moves.compact_cost.compact_cost_by_counted.Goals.{In_default, After-sums_from-sums, else-not-admits_blocks-via-then-not-admits_blocks+else-not-sums, else-not-admits_blocks-via-else-not-admits_blocks}
use Rattle.offset_allocator.proofs.moves.compact_cost.compact_cost_by_counted.Goals as goal

-- no block slides
none_slides : (g : Over) (c : In_default g) → run_by c.args.step c.args.allocator.now.blocks ≡ []
none_slides g c =
    let bs = blocks (g.T.Tables.cells c.allocator.inside.store.tables).chain c.allocator.inside.store.last in
    let now = ap (λ (v : View). v.blocks) c.allocator.view_is in
    ap (run_by c.args.step) (sym now) ∙ none_left (run_by c.args.step bs) (sym (from_start c.args.step 0 bs) ∙ sym c.first_from.ensures.first ∙ c.in_default.is)

-- the run that would slide, and its sums
record Found (g : Over) (c : After-sums_from-sums g) : Type 0 where
  run : List Block
  some : run ≢ []
  is : run_by c.args.step c.args.allocator.now.blocks ≡ run
  few : length run ≤ length c.args.allocator.now.blocks
  units : c.sums_from-sums.result.units ≡ used_units run
  ranges : c.sums_from-sums.result.ranges ≡ count_used run
  given : c.sums_from-sums.result.given ≡ given_up c.args.step run
  empties : (c.sums_from-sums.result.empties ≡ true) ↔ (used_up c.args.step run ≢ [])
  fits : given_up c.args.step run < 2 ^ 32
  least : c.first_from.new.count ≤ c.sums_from-sums.new.count
  most : c.sums_from-sums.new.count ≤ c.first_from.new.count + 3 * length run

found : (g : Over) (c : After-sums_from-sums g) → Found g c
found g c =
    let bs = blocks (g.T.Tables.cells c.allocator.inside.store.tables).chain c.allocator.inside.store.last in
    let now = ap (λ (v : View). v.blocks) c.allocator.view_is in
    let o : IsWhole c.args.step bs c.in-Some.first = whole_is c.args.step bs c.in-Some.first (sym (from_start c.args.step 0 bs) ∙ sym c.first_from.ensures.first ∙ c.in-Some.is) in
    let e = c.sums_from-sums.ensures.sums _ _ o.front (o.first ∷ o.rest) c.allocator.invariant.space o.is (ap Some o.name) in
    record {
      run = o.first ∷ o.rest;
      some = λ z. absurd (cc);
      is = ap (run_by c.args.step) (sym now) ∙ o.run;
      few = omega (arith, ap (λ (l : List Block). length l) o.is, ap (λ (l : List Block). length l) now, length-append o.front (o.first ∷ o.rest));
      units = e.0;
      ranges = e.1;
      given = e.2;
      empties = e.3;
      fits = omega (arith, stepped_units c.args.step (o.first ∷ o.rest), ap units o.is, units-append o.front (o.first ∷ o.rest), c.allocator.invariant.space.fits);
      least = e.4;
      most = e.5;
    }

pub returns-in_default-clause-none : goal.returns-in_default-clause-none
returns-in_default-clause-none g c =
    let none = none_slides g (goal.at.returns-in_default-clause-none g c).In_default in
    (λ e. absurd (cc), λ h. absurd (h.0 none))

pub returns-in_default-clause-units : goal.returns-in_default-clause-units
returns-in_default-clause-units g c = ap used_units (sym (none_slides g (goal.at.returns-in_default-clause-units g c).In_default))

pub returns-in_default-clause-ranges : goal.returns-in_default-clause-ranges
returns-in_default-clause-ranges g c = ap count_used (sym (none_slides g (goal.at.returns-in_default-clause-ranges g c).In_default))

pub returns-in_default-clause-granted : goal.returns-in_default-clause-granted
returns-in_default-clause-granted g c n w one well h =
    let none = none_slides g (goal.at.returns-in_default-clause-granted g c).In_default in
    let grants = still_grants c.args.step c.args.allocator.now w n well one none h in
    subst (λ m. CanGrant 1 n w ↔ (AdmitsBlocks 1 w × (n ≤ m))) (sym c.largest_region_counted.ensures.region) grants

pub sums_from-sums-requires-clause-place : goal.sums_from-sums-requires-clause-place
sums_from-sums-requires-clause-place g c =
    let bs = blocks (g.T.Tables.cells c.allocator.inside.store.tables).chain c.allocator.inside.store.last in
    let o : IsWhole c.args.step bs c.in-Some.first = whole_is c.args.step bs c.in-Some.first (sym (from_start c.args.step 0 bs) ∙ sym c.first_from.ensures.first ∙ c.in-Some.is) in
    (_, _, o.front, o.first ∷ o.rest, c.allocator.invariant.space, o.is, ap Some o.name)

pub returns-then-not-sums-clause-none : goal.returns-then-not-sums-clause-none
returns-then-not-sums-clause-none g c =
    let f = found g (goal.at.returns-then-not-sums-clause-none g c).After-sums_from-sums in (
      λ e. (
        λ z. f.some (sym f.is ∙ z),
        λ can. elim can [
          | inl a ↦ absurd (true≢false (sym (c.admits_blocks.ensures.1 a) ∙ c.if-not-admits_blocks.true))
          | inr u ↦ absurd (true≢false (sym (f.empties.1 (λ z. u (ap (used_up c.args.step) f.is ∙ z))) ∙ not-true c.sums_from-sums.result.empties c.if-not-sums.true))
        ],
      ),
      λ h. refl,
    )

pub returns-then-not-sums-clause-accesses : goal.returns-then-not-sums-clause-accesses
returns-then-not-sums-clause-accesses g c =
    let f = found g (goal.at.returns-then-not-sums-clause-accesses g c).After-sums_from-sums in
    let all = ap (λ (v : View). length v.blocks) c.allocator.view_is in
    (omega (arith, c.first_from.ensures.accesses, f.least), omega (arith, c.first_from.ensures.accesses, all, f.most, f.few))

pub float_to_uint-requires : goal.float_to_uint-requires
float_to_uint-requires g c = omega (arith, down_small c.sums_from-sums.result.given, c.uint_to_float_round_down.ensures.is)

pub returns-clause-none : goal.returns-clause-none
returns-clause-none g c =
    let f = found g (goal.at.returns-clause-none g c).After-sums_from-sums in (
      λ e. absurd (cc),
      λ h. absurd (h.1 (elim c.else-not-admits_blocks.branch [
        | else-not-admits_blocks-via-then-not-admits_blocks+else-not-sums w ↦ inr (λ z. f.empties.0 (not-false c.sums_from-sums.result.empties w.if-not-sums.false) (ap (used_up c.args.step) (sym f.is) ∙ z))
        | else-not-admits_blocks-via-else-not-admits_blocks w ↦ inl (c.admits_blocks.ensures.0 w.if-not-admits_blocks.false)
      ])),
    )

pub returns-clause-units : goal.returns-clause-units
returns-clause-units g c = let f = found g (goal.at.returns-clause-units g c).After-sums_from-sums in f.units ∙ ap used_units (sym f.is)

pub returns-clause-ranges : goal.returns-clause-ranges
returns-clause-ranges g c = let f = found g (goal.at.returns-clause-ranges g c).After-sums_from-sums in f.ranges ∙ ap count_used (sym f.is)

pub returns-clause-granted : goal.returns-clause-granted
returns-clause-granted g c n w one well h =
    let f = found g (goal.at.returns-clause-granted g c).After-sums_from-sums in
    let grants = steps_grant c.args.step c.requires.some c.args.allocator.now w n well one (λ z. f.some (sym f.is ∙ z)) h in
    let given : c.sums_from-sums.result.given ≡ given_up c.args.step (run_by c.args.step c.args.allocator.now.blocks) = f.given ∙ ap (given_up c.args.step) (sym f.is) in
    let is : c.float_to_uint.result ≡ value (down (given_up c.args.step (run_by c.args.step c.args.allocator.now.blocks))) =
    omega (
      arith,
      c.float_to_uint.ensures.is,
      ap value (c.uint_to_float_round_down.ensures.is ∙ ap down given),
      value_down (given_up c.args.step (run_by c.args.step c.args.allocator.now.blocks)),
      ap (given_up c.args.step) f.is,
      f.fits,
    ) in
    subst (λ m. CanGrant 1 n w ↔ (AdmitsBlocks 1 w × (n ≤ m))) (sym is) grants

pub returns-clause-accesses : goal.returns-clause-accesses
returns-clause-accesses g c =
    let f = found g (goal.at.returns-clause-accesses g c).After-sums_from-sums in
    let all = ap (λ (v : View). length v.blocks) c.allocator.view_is in
    (omega (arith, c.first_from.ensures.accesses, f.least), omega (arith, c.first_from.ensures.accesses, all, f.most, f.few))
