use Rattle.offset_allocator.proofs.{Saving.Backwards.marked_below, Saving.StateWords.length-words, Saving.StateWords.same_counts, Saving.Firsts.all_read}
use Rattle.offset_allocator.proofs.Common.{◌≡◌, ◌∙◌, ◌+◌, ◌/◌, ap, refl, sym, length, take, arith, ℕ, List, subst}
use Rattle.offset_allocator.proofs.Saving.Laying.{each_small, each_far, idle_made, laid_chain, marked_each}
use Rattle.offset_allocator.specs.Saving.ListFaults.{IsBlockFault, IsUnusedFault}
use Rattle.offset_allocator.proofs.states.building.lay_out.Goals as goal

pub returns-in-Err-clause-wrong : goal.returns-in-Err-clause-wrong
returns-in-Err-clause-wrong g c _ bs words whole each =
    let us : List ℕ = c.args.unused.now in
    c.in-Err.ensures.wrong refl bs words whole (λ x. omega (arith, each_small bs us each x))
    (λ x far. omega (arith, each_far bs us each x (omega (arith, far, c.in_ok-tables.ensures.nodes, ap length words, length-words bs))))

pub returns-in-Some-clause-wrong : goal.returns-in-Some-clause-wrong
returns-in-Some-clause-wrong g c _ bs words whole each =
    let us : List ℕ = c.args.unused.now in
    let p = c.in-Ok.ensures.placed in
    let made = c.in-Ok.ensures.made _ _ (idle_made c.in_ok-tables.ensures) in
    c.in-Some.ensures.wrong refl 0 p.0 p.1 (λ x. omega (arith, each_small bs us each x, same_counts x p.0 bs (p.2 ∙ sym words)))
    (λ x far. omega (arith, each_far bs us each x (omega (arith, far, made.nodes, ap length words, length-words bs))))

pub clear_marks-requires : goal.clear_marks-requires
clear_marks-requires g c = record {
  named = λ x some.
      let p = c.in-Ok.ensures.placed in
      let back = c.in_default.ensures.placed refl 0 p.0 p.1 in
      marked_below (g.T.Tables.cells c.place_unused.new.tables).chain x (omega (arith, back.0.marks x, some));
}

pub returns-clause-out : goal.returns-clause-out
returns-clause-out g c =
    let us : List ℕ = c.args.unused.now in
    let p = c.in-Ok.ensures.placed in
    let back = c.in_default.ensures.placed refl 0 p.0 p.1 in
    let placed = c.in_default.ensures.made _ _ (c.in-Ok.ensures.made _ _ (idle_made c.in_ok-tables.ensures)) in
    let made = c.clear_marks.ensures.made _ _ placed in
    let long : length p.0 + length us ≡ length c.args.blocks.now / 2 + length us = omega (arith, ap length p.2, length-words p.0) in
    let each = marked_each _ 0 p.0 us back.0 (omega (arith, long, placed.nodes)) in
    let spare = ap (λ l. take (length us) l) c.clear_marks.ensures.spare ∙ back.1 in
    record {
      all = p.0;
      words = p.2;
      used = p.1.used;
      whole = p.3;
      each = each;
      chain = laid_chain (c.clear_marks.ensures.back 0 p.0 back.0) made each long c.requires.within c.shape.ensures.spare spare p.4 (omega (arith, p.3));
      count = refl;
      spare = spare;
      binned = c.empty_mask-top_mask.ensures.binned;
      empty = c.empty_mask-top_mask.ensures.lists;
    }

pub returns-in-Err-clause-fault : goal.returns-in-Err-clause-fault
returns-in-Err-clause-fault g c free = subst (λ n. IsBlockFault n c.args.size c.args.blocks.now c.in-Err.at) c.in_ok-tables.ensures.nodes c.in-Err.ensures.fault

pub returns-in-Some-clause-fault : goal.returns-in-Some-clause-fault
returns-in-Some-clause-fault g c free =
    let p = c.in-Ok.ensures.placed in
    let made = c.in-Ok.ensures.made _ _ (idle_made c.in_ok-tables.ensures) in (
      p.0,
      all_read _ c.args.size c.args.blocks.now p.1 (sym made.nodes) p.2 p.3,
      subst (λ n. IsUnusedFault n p.0 c.args.unused.now c.in-Some.at) made.nodes (c.in-Some.ensures.fault 0 p.0 p.1),
    )
