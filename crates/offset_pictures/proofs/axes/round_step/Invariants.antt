use Rattle.std.proofs.Common.{◌≡◌, drop}
use Rattle.offset_pictures.specs.Scales.{first_step, round_step}
use Rattle.offset_pictures.proofs.axes.round_step.Given as goal

-- the numbers so far are too small
abbrev pub invariant-loop-step : goal.invariant-loop-step
invariant-loop-step l = round_step l.most l.count ≡ first_step l.most l.count (drop l.step-index l.step-items)
