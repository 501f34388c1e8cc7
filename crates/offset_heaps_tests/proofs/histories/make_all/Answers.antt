use Rattle.offset_heaps_tests.proofs.histories.make_all.Goals as goal

pub loop-change-preserved : goal.loop-change-preserved
loop-change-preserved c = c.dropped_heaps_stay_dropped.ensures.step c.args.place c.loop-change.heaps c.make.new.heaps c.loop-change.invariant c.make.ensures

pub returns-clause-dead : goal.returns-clause-dead
returns-clause-dead c = c.dropped_heaps_stay_dropped.ensures.dead c.args.place c.loop-change.heaps c.loop-change.invariant
