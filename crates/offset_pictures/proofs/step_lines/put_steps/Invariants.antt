use Rattle.std.proofs.Common.{◌≡◌, ◌++◌, drop, length}
use Rattle.std.specs.Prelude.{string_bytes}
use Rattle.offset_pictures.specs.StepLines.{groups_from, groups_text, IsAt}
use Rattle.offset_pictures.proofs.Grouped.{opened}
use Rattle.offset_pictures.proofs.step_lines.put_steps.Given as goal

-- where the pen is, and that the line over the open group and the states to come, from there on, makes the whole line
abbrev pub invariant-loop-value : goal.invariant-loop-value
invariant-loop-value l = record {
  at : IsAt l.plot.units l.pen;
  text : string_bytes l.out ++ groups_text l.plot.units l.pen.y (opened l.group (groups_from l.plot.calls (length l.yielded) (drop (length l.yielded) l.values)))
      ≡ string_bytes l.initial.out ++ groups_text l.plot.units l.base (groups_from l.plot.calls 0 l.values);
}
