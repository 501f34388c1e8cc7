use Rattle.offset_allocator.proofs.{Common.◌+◌, Common.refl, Common.arith, Filing.Binned.fits}
use Rattle.offset_allocator.proofs.reports.lengths.lengths_of.Goals as goal

pub step-requires-clause-tail : goal.step-requires-clause-tail
step-requires-clause-tail g c = (_, c.loop-a.invariant.a, omega (arith, fits c.requires.linked c.args.class (omega (arith, c.requires.classed)), c.requires.linked.names_small))

pub step-requires-in-loop-a-clause-tail : goal.step-requires-in-loop-a-clause-tail
step-requires-in-loop-a-clause-tail g c = (_, c.loop-a.invariant.b, omega (arith, fits c.requires.linked (c.args.class + 1) (omega (arith, c.requires.classed)), c.requires.linked.names_small))

pub step-requires-in-loop-a-2-clause-tail : goal.step-requires-in-loop-a-2-clause-tail
step-requires-in-loop-a-2-clause-tail g c = (_, c.loop-a.invariant.c, omega (arith, fits c.requires.linked (c.args.class + 2) (omega (arith, c.requires.classed)), c.requires.linked.names_small))

pub step-requires-in-loop-a-3-clause-tail : goal.step-requires-in-loop-a-3-clause-tail
step-requires-in-loop-a-3-clause-tail g c = (_, c.loop-a.invariant.d, omega (arith, fits c.requires.linked (c.args.class + 3) (omega (arith, c.requires.classed)), c.requires.linked.names_small))

pub finish-requires-clause-tail : goal.finish-requires-clause-tail
finish-requires-clause-tail g c = (_, c.loop-a.invariant.a, omega (arith, fits c.requires.linked c.args.class (omega (arith, c.requires.classed)), c.requires.linked.names_small))

pub finish-requires-2-clause-tail : goal.finish-requires-2-clause-tail
finish-requires-2-clause-tail g c = (_, c.loop-a.invariant.b, omega (arith, fits c.requires.linked (c.args.class + 1) (omega (arith, c.requires.classed)), c.requires.linked.names_small))

pub finish-requires-3-clause-tail : goal.finish-requires-3-clause-tail
finish-requires-3-clause-tail g c = (_, c.loop-a.invariant.c, omega (arith, fits c.requires.linked (c.args.class + 2) (omega (arith, c.requires.classed)), c.requires.linked.names_small))

pub finish-requires-4-clause-tail : goal.finish-requires-4-clause-tail
finish-requires-4-clause-tail g c = (_, c.loop-a.invariant.d, omega (arith, fits c.requires.linked (c.args.class + 3) (omega (arith, c.requires.classed)), c.requires.linked.names_small))

pub returns-clause-names : goal.returns-clause-names
returns-clause-names g c =
    let i = c.loop-a.invariant in
    rw (c.finish.ensures.all _ i.a, c.finish-2.ensures.all _ i.b, c.finish-3.ensures.all _ i.c, c.finish-4.ensures.all _ i.d) refl

pub loop-a-preserved : goal.loop-a-preserved
loop-a-preserved g c =
    let i = c.loop-a.invariant in
    record {
      a = c.step.ensures.tail _ i.a;
      b = c.step-in-loop-a.ensures.tail _ i.b;
      c = c.step-in-loop-a-2.ensures.tail _ i.c;
      d = c.step-in-loop-a-3.ensures.tail _ i.d;
      accesses = omega (arith, i.accesses, c.step.ensures.accesses, c.step-in-loop-a.ensures.accesses, c.step-in-loop-a-2.ensures.accesses, c.step-in-loop-a-3.ensures.accesses);
    }

pub returns-clause-accesses : goal.returns-clause-accesses
returns-clause-accesses g c =
    omega (arith, c.loop-a.invariant.accesses, c.finish.ensures.accesses, c.finish-2.ensures.accesses, c.finish-3.ensures.accesses, c.finish-4.ensures.accesses)
