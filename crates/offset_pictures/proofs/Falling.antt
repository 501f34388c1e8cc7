-- A larger value does not lie lower.
use Rattle.std.proofs.Common.{ℕ, ◌+◌, ◌-◌, ◌*◌, ◌/◌, ◌<◌, ◌≤◌, min, arith}
use Rattle.std.proofs.Math.Nat.{mul-le-mul_left}
use Rattle.std.proofs.lemmas.Nat.{le-div}
use Rattle.offset_pictures.specs.declared.axes.Axis.{Axis}
use Rattle.offset_pictures.specs.{Scales.along, Axes.y_of}

quotient_rises : (a b m : ℕ) → 0 < m → a ≤ b → a / m ≤ b / m
quotient_rises a b m pos h = le-div (a / m) b m pos (omega arith)

along_rises : (span most v w : ℕ) → 0 < most → v ≤ w → along span most v ≤ along span most w
along_rises span most v w pos h =
    let values : min v most ≤ min w most = omega arith in
    quotient_rises (min v most * span) (min w most * span) most pos (omega (arith, mul-le-mul_left span values))

tenths_rise : (a b : ℕ) → a ≤ b → a / 10 * 10 ≤ b / 10 * 10
tenths_rise a b h = omega (arith, quotient_rises a b 10 (omega arith) h)

pub y_falls : (units : Axis) (v w : ℕ) → 0 < units.most → v ≤ w → y_of units w ≤ y_of units v
y_falls units v w pos h =
    let further = along_rises units.span units.most v w pos h in
    tenths_rise (units.start + units.span - along units.span units.most w) (units.start + units.span - along units.span units.most v) (omega arith)
