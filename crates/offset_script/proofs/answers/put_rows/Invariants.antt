use Rattle.offset_script.proofs.Common.{◌≡◌, ◌++◌, take, map, flat_map, row_view, row_line}
use Rattle.offset_script.proofs.answers.put_rows.Given as goal

abbrev pub invariant-loop-row : goal.invariant-loop-row
invariant-loop-row l = l.out.items ≡ l.fn.out.items ++ flat_map row_line (map row_view (take l.row-index l.rows))
