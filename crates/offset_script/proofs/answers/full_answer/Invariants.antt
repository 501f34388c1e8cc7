use Rattle.offset_script.proofs.Common.{◌≡◌, map, rows_below, row_view}
use Rattle.offset_allocator.specs.View.{free_sizes}
use Rattle.offset_script.proofs.answers.full_answer.Given as goal

-- the rows of the classes so far
abbrev pub invariant-loop-class : goal.invariant-loop-class
invariant-loop-class g l = map row_view l.rows.items ≡ rows_below l.class (free_sizes l.fn.space.blocks)
