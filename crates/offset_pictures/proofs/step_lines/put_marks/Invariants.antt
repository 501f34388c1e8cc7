use Rattle.std.proofs.Common.{◌≡◌, ◌++◌, drop, map}
use Rattle.std.specs.Prelude.{flat_map, string_bytes}
use Rattle.offset_pictures.specs.{Numerals.counted_from_1, Marks.mark_text, Marks.marks_text, Marks.one_of_each, Axes.x_of}
use Rattle.offset_pictures.proofs.Grouped.{marked_after}
use Rattle.offset_pictures.proofs.step_lines.put_marks.Given as goal

-- the marks so far, and those of the calls to come, are all
abbrev pub invariant-loop-refused : goal.invariant-loop-refused
invariant-loop-refused l =
    string_bytes l.out ++ flat_map (mark_text l.y) (marked_after l.before (one_of_each (map (λ r. x_of l.calls (counted_from_1 r.call)) (drop l.refused-index l.marked))))
    ≡ string_bytes l.initial.out ++ marks_text l.calls l.y l.marked
