use Rattle.std.proofs.Common.{◌-◌}
use Rattle.offset_pictures.specs.Lives.{is_on, life_view}
use Rattle.offset_pictures.proofs.{Counted.IsCount, Peaks.HasSeen}
use Rattle.offset_pictures.proofs.figures.figures_of.Given as goal

-- the numbers after the states so far, and what is on in the last of them
abbrev pub invariant-loop-state : goal.invariant-loop-state
invariant-loop-state l = record {
  seen : HasSeen l.state l.found l.course;
  on : IsCount (λ x. is_on (l.state - 1) (life_view x)) l.course.lives.items l.on;
}
