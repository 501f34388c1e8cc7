use Rattle.offset_allocator.proofs.Common.{◌≡◌, ◌∙◌, ◌+◌, ◌-◌, ◌∷◌, ap, sym, subst, not, None, Some, inl, inr, take, drop, sum, arith, ℕ, List, Block, last_or, free_sizes, count_used, starts_free}
use Rattle.offset_allocator.proofs.Common.{AreCoalesced, length}
use Rattle.offset_allocator.proofs.Saving.Surveys.{IsNextBack, next_back, drop_sums, sums_free, sums_used, joined_apart, not_apart, drop_apart, name_next}
use Rattle.offset_allocator.specs.Chain.{blocks as blocks_in}
use Rattle.offset_allocator.specs.declared.states.building.Overview.{Overview}
use Rattle.offset_allocator.proofs.states.building.look_over.Goals as goal
use Rattle.offset_allocator.proofs.states.building.look_over.Goals.{then-is_free-2, else-is_free-2, else-is_free-via-then-is_free+else-is_free_after, else-is_free-via-else-is_free, in-Some}
use Rattle.offset_allocator.proofs.states.building.look_over.Goals.{in_default, In-loop-i}
use Rattle.offset_allocator.proofs.states.building.look_over.Given.{Over}

-- the block that the walk has come to
here : (g : Over) (c : In-loop-i g)
    → IsNextBack (g.T.Tables.cells c.args.tables.now).chain (blocks_in (g.T.Tables.cells c.args.tables.now).chain c.args.last) (c.args.blocks - c.loop-i.i) c.loop-i.name
here g c = next_back (blocks_in (g.T.Tables.cells c.args.tables.now).chain c.args.last) (c.args.blocks - c.loop-i.i) c.loop-i.name c.requires.space.1 (omega (arith, c.requires.all))
    (c.loop-i.invariant.at (omega (arith, c.loop-i-test.true)))

pub used-is_free-requires : goal.used-is_free-requires
used-is_free-requires g c = (here g (goal.at.used-is_free-requires g c).In-loop-i).below

pub size-requires : goal.size-requires
size-requires g c = (here g (goal.at.size-requires g c).In-loop-i).below

pub before-requires : goal.before-requires
before-requires g c = (here g (goal.at.before-requires g c).In-loop-i).below

pub returns-then-is_free_after-clause-wrong : goal.returns-then-is_free_after-clause-wrong
returns-then-is_free_after-clause-wrong g c _ apart =
    let bs : List Block = blocks_in (g.T.Tables.cells c.args.tables.now).chain c.args.last in
    let k : ℕ = c.args.blocks - c.loop-i.i in
    let r = here g (goal.at.returns-then-is_free_after-clause-wrong g c).In-loop-i in
    not_apart r.block (drop k bs) (ap not (sym (c.used-is_free.ensures.cell ∙ r.used) ∙ c.if-is_free.true)) (sym c.loop-i.invariant.first ∙ c.if-is_free_after.true)
    (subst AreCoalesced r.passed (drop_apart bs (k - 1) apart))

pub overflow_add-found : goal.overflow_add-found
overflow_add-found g c =
    let bs : List Block = blocks_in (g.T.Tables.cells c.args.tables.now).chain c.args.last in
    let k : ℕ = c.args.blocks - c.loop-i.i in
    let r = here g (goal.at.overflow_add-found g c).In-loop-i in
    let free = sums_free r.block (drop k bs) (sym (c.used-is_free.ensures.cell ∙ r.used) ∙ c.if-is_free-2.true) in
    omega (arith, (drop_sums bs (k - 1)).0, ap (λ l. sum (free_sizes l)) r.passed, free.0, c.loop-i.invariant.free_units, c.size.ensures.cell, r.size, c.requires.space.1.fits)

pub overflow_add-found-else-is_free-2 : goal.overflow_add-found-else-is_free-2
overflow_add-found-else-is_free-2 g c =
    let bs : List Block = blocks_in (g.T.Tables.cells c.args.tables.now).chain c.args.last in
    omega (
      arith,
      (drop_sums bs (c.args.blocks - c.loop-i.i)).1,
      c.loop-i.invariant.used,
      c.requires.space.1.full,
      c.requires.space.1.within,
      c.shape.ensures.within,
      c.shape.ensures.limit,
      c.shape.ensures.word,
    )

pub loop-i-preserved : goal.loop-i-preserved
loop-i-preserved g c =
    let bs : List Block = blocks_in (g.T.Tables.cells c.args.tables.now).chain c.args.last in
    let k : ℕ = c.args.blocks - c.loop-i.i in
    let r = here g (goal.at.loop-i-preserved g c).In-loop-i in
    let i = c.loop-i.invariant in
    let next : c.args.blocks - (c.loop-i.i + 1) ≡ k - 1 = omega arith in
    let passed : drop (c.args.blocks - (c.loop-i.i + 1)) bs ≡ r.block ∷ drop k bs = ap (λ n. drop n bs) next ∙ r.passed in
    let used : c.used-is_free.result ≡ r.block.used = c.used-is_free.ensures.cell ∙ r.used in
    record {
      at = λ more. ap (λ n. last_or None (take n bs)) next ∙ elim c.match-linked.branch [
        | in-Some w ↦ sym r.before ∙ sym c.before-in-loop-i.ensures.cell ∙ sym c.linked.ensures ∙ w.in-Some.is ∙ ap (λ n. Some n) (sym w.name-is)
        | in_default w ↦ absurd (name_next bs (k - 1) (sym r.before ∙ sym c.before-in-loop-i.ensures.cell ∙ sym c.linked.ensures
            ∙ w.in_default.is) (omega (arith, more)) (omega (arith, c.requires.all)))
      ];
      apart = subst AreCoalesced (sym passed) (joined_apart r.block (drop k bs) (elim c.else-is_free.branch [
        | else-is_free-via-then-is_free+else-is_free_after w ↦ inr (sym i.first ∙ w.if-is_free_after.false)
        | else-is_free-via-else-is_free w ↦ inl (ap not (sym used ∙ w.if-is_free.false))
      ]) i.apart);
      first = ap not used ∙ ap starts_free (sym passed);
      free_units = elim c.if-is_free-2.branch [
        | then-is_free-2 w ↦ omega (
          arith,
          ap (λ (f : Overview). f.free_units) w.found-is,
          i.free_units,
          ap (λ l. sum (free_sizes l)) passed,
          (sums_free r.block (drop k bs) (sym used ∙ w.if-is_free-2.true)).0,
          w.size.ensures.cell,
          r.size,
        )
        | else-is_free-2 w ↦ omega (
          arith,
          ap (λ (f : Overview). f.free_units) w.found-is,
          i.free_units,
          ap (λ l. sum (free_sizes l)) passed,
          (sums_used r.block (drop k bs) (sym used ∙ w.if-is_free-2.false)).0,
        )
      ];
      used = elim c.if-is_free-2.branch [
        | then-is_free-2 w ↦ omega (arith, ap (λ (f : Overview). f.used) w.found-is, i.used, ap count_used passed, (sums_free r.block (drop k bs) (sym used ∙ w.if-is_free-2.true)).1)
        | else-is_free-2 w ↦ omega (arith, ap (λ (f : Overview). f.used) w.found-is, i.used, ap count_used passed, (sums_used r.block (drop k bs) (sym used ∙ w.if-is_free-2.false)).1)
      ];
    }

pub returns-then-is_free_after-clause-fault : goal.returns-then-is_free_after-clause-fault
returns-then-is_free_after-clause-fault g c =
    let bs : List Block = blocks_in (g.T.Tables.cells c.args.tables.now).chain c.args.last in
    let k : ℕ = c.args.blocks - c.loop-i.i in
    let r = here g (goal.at.returns-then-is_free_after-clause-fault g c).In-loop-i in
    let here : length bs - c.loop-i.i ≡ k = omega (arith, c.requires.all) in
    let before : length bs - (c.loop-i.i + 1) ≡ k - 1 = omega (arith, c.requires.all) in (
      omega (arith, c.requires.all, c.loop-i-test.true),
      subst (λ n. AreCoalesced (drop n bs)) (sym here) c.loop-i.invariant.apart,
      λ apart. not_apart r.block (drop k bs) (ap not (sym (c.used-is_free.ensures.cell ∙ r.used) ∙ c.if-is_free.true)) (sym c.loop-i.invariant.first ∙ c.if-is_free_after.true)
          (subst AreCoalesced (ap (λ n. drop n bs) before ∙ r.passed) apart),
    )
