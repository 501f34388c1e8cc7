use Rattle.offset_allocator.proofs.Common.{refl, length, ℕ, Bool, ap, arith, sym, ◌∙◌, ◌++◌, ◌∷◌, [], length-append}
use Rattle.offset_allocator.proofs.{Reporting.Largest.walk_begins, Reporting.Largest.walk_at, Reporting.Largest.walk_ends, Reporting.Largest.walk_next, Holding.find_past, Holding.find_first, Holding.find_later}
use Rattle.offset_allocator.specs.Tight.{holds_in}
use Rattle.std.specs.List.{find}
use Rattle.offset_allocator.proofs.tight.first_of_bin.Goals as goal

pub loop-name-preserved : goal.loop-name-preserved
loop-name-preserved g c =
    let i = c.loop-name.invariant in
    let P : ℕ → Bool = holds_in (g.T.Tables.cells c.args.tables.now).chain c.args.size c.args.align in
    let next = walk_next i.walked (λ e. c.loop-name-test.true (e ∙ sym c.MAX.ensures)) in
    let no = rw (c.offset-offset.ensures.cell, c.size-whole.ensures.cell) at (sym c.holds.ensures ∙ c.if-holds.false) in
    record {
      met = i.met ++ c.loop-name.name ∷ [];
      walked = rw (c.number-name.ensures.number, c.older.ensures.cell) next.2;
      none = find_past P i.met (c.loop-name.name ∷ []) i.none ∙ find_later P c.loop-name.name [] no;
      accesses = omega (arith, i.accesses, length-append i.met (c.loop-name.name ∷ []), c.offset-offset.ensures.accesses, c.size-whole.ensures.accesses, c.older.ensures.accesses);
    }

pub returns-clause-first : goal.returns-clause-first
returns-clause-first g c =
    let i = c.loop-name.invariant in
    let P : ℕ → Bool = holds_in (g.T.Tables.cells c.args.tables.now).chain c.args.size c.args.align in
    sym (ap (find P) (walk_ends c.requires.linked.names_small i.walked (c.loop-name-test.false ∙ c.MAX.ensures)) ∙ i.none)

pub returns-then-holds-clause-first : goal.returns-then-holds-clause-first
returns-then-holds-clause-first g c =
    let i = c.loop-name.invariant in
    let P : ℕ → Bool = holds_in (g.T.Tables.cells c.args.tables.now).chain c.args.size c.args.align in
    let at = walk_at i.walked (λ e. c.loop-name-test.true (e ∙ sym c.MAX.ensures)) in
    let yes = rw (c.offset-offset.ensures.cell, c.size-whole.ensures.cell) at (sym c.holds.ensures ∙ c.if-holds.true) in
    sym (ap (find P) at.1 ∙ find_past P i.met (c.loop-name.name ∷ at.0) i.none ∙ find_first P c.loop-name.name at.0 yes)

pub offset-offset-requires : goal.offset-offset-requires
offset-offset-requires g c = omega (arith, (walk_next c.loop-name.invariant.walked (λ e. c.loop-name-test.true (e ∙ sym c.MAX.ensures))).0)

pub size-whole-requires : goal.size-whole-requires
size-whole-requires g c = omega (arith, (walk_next c.loop-name.invariant.walked (λ e. c.loop-name-test.true (e ∙ sym c.MAX.ensures))).0)

pub older-requires : goal.older-requires
older-requires g c = omega (arith, (walk_next c.loop-name.invariant.walked (λ e. c.loop-name-test.true (e ∙ sym c.MAX.ensures))).0)

pub loop-name-init : goal.loop-name-init
loop-name-init g c = record { met = []; walked = walk_begins c.requires.linked c.requires.classed c.head-name.ensures.cell; none = refl; accesses = omega (arith, c.head-name.ensures.accesses) }

pub loop-name-smaller : goal.loop-name-smaller
loop-name-smaller g c = omega (arith, c.loop-name.invariant.accesses, (walk_next c.loop-name.invariant.walked (λ e. c.loop-name-test.true (e ∙ sym c.MAX.ensures))).1)

pub returns-clause-accesses : goal.returns-clause-accesses
returns-clause-accesses g c =
    let i = c.loop-name.invariant in
    let all = ap length (walk_ends c.requires.linked.names_small i.walked (c.loop-name-test.false ∙ c.MAX.ensures)) in
    (omega (arith, i.accesses), omega (arith, i.accesses, all))

pub returns-then-holds-clause-accesses : goal.returns-then-holds-clause-accesses
returns-then-holds-clause-accesses g c =
    let i = c.loop-name.invariant in
    let next = walk_next i.walked (λ e. c.loop-name-test.true (e ∙ sym c.MAX.ensures)) in
    (omega (arith, i.accesses), omega (arith, i.accesses, next.1))
