use Rattle.offset_allocator.proofs.{Common.◌∙◌, Linking.Walks.tail_end}
use Rattle.offset_allocator.proofs.reports.lengths.Walk.finish.Goals as goal

pub returns-clause-all : goal.returns-clause-all
returns-clause-all g c total t = tail_end c.requires.linked.names_small (c.loop-self.invariant.each total t) (c.loop-self-test.false ∙ c.MAX.ensures)
