use Rattle.offset_allocator.proofs.Common.{◌≡◌, ◌++◌, take}
use Rattle.offset_allocator.proofs.states.save.push_unused.Given as goal

abbrev pub invariant-loop-place : goal.invariant-loop-place
invariant-loop-place g l = l.words.items ≡ l.fn.words.items ++ take l.place (g.T.Tables.cells l.tables).chain.spare
