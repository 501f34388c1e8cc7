use Rattle.offset_allocator.proofs.{Common.refl, Common.length, Common.ap, Common.arith, Common.sym, Common.◌∙◌, Common.◌++◌, Common.◌∷◌, Common.[], Common.length-append, Common.node, Reporting.Largest.walk_next, Reporting.Largest.walk_begins, Reporting.Largest.walk_ends}
use Rattle.offset_allocator.proofs.{Reporting.Largest.greatest_push}
use Rattle.offset_allocator.specs.Reporting.Statistics.{greatest, sizes_of}
use Rattle.offset_allocator.proofs.reports.statistics.largest_of_class.Goals as goal

pub loop-name-preserved : goal.loop-name-preserved
loop-name-preserved g c =
    let i = c.loop-name.invariant in
    let next = walk_next i.walked (λ e. c.loop-name-test.true (e ∙ sym c.MAX.ensures)) in
    record {
      met = i.met ++ c.loop-name.name ∷ [];
      walked = rw (c.number-name.ensures.number, c.older.ensures.cell) next.2;
      largest = grind (arith, greatest_push (λ x. (node (g.T.Tables.cells c.args.tables.now).chain x).size) i.met c.loop-name.name);
      accesses = omega (arith, i.accesses, length-append i.met (c.loop-name.name ∷ []), c.size.ensures.accesses, c.older.ensures.accesses);
    }

pub size-requires : goal.size-requires
size-requires g c = omega (arith, (walk_next c.loop-name.invariant.walked (λ e. c.loop-name-test.true (e ∙ sym c.MAX.ensures))).0)

pub older-requires : goal.older-requires
older-requires g c = omega (arith, (walk_next c.loop-name.invariant.walked (λ e. c.loop-name-test.true (e ∙ sym c.MAX.ensures))).0)

pub loop-name-init : goal.loop-name-init
loop-name-init g c = record { met = []; walked = walk_begins c.requires.linked c.requires.classed c.head-name.ensures.cell; largest = refl; accesses = omega (arith, c.head-name.ensures.accesses) }

pub loop-name-smaller : goal.loop-name-smaller
loop-name-smaller g c = omega (arith, c.loop-name.invariant.accesses, (walk_next c.loop-name.invariant.walked (λ e. c.loop-name-test.true (e ∙ sym c.MAX.ensures))).1)

pub returns-clause-largest : goal.returns-clause-largest
returns-clause-largest g c =
    let i = c.loop-name.invariant in
    i.largest ∙ ap (λ l. greatest (sizes_of (g.T.Tables.cells c.args.tables.now).chain l)) (sym (walk_ends c.requires.linked.names_small i.walked (c.loop-name-test.false ∙ c.MAX.ensures)))

pub returns-clause-accesses : goal.returns-clause-accesses
returns-clause-accesses g c =
    let i = c.loop-name.invariant in
    omega (arith, i.accesses, ap length (walk_ends c.requires.linked.names_small i.walked (c.loop-name-test.false ∙ c.MAX.ensures)))
