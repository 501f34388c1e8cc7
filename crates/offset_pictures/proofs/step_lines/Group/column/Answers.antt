use Rattle.std.proofs.Common.{◌≡◌, arith, ap, sym, ◌∙◌, rules}
use Rattle.offset_pictures.specs.declared.axes.Axis.{Axis}
use Rattle.offset_pictures.specs.Axes.{y_of, in_tenths}
use Rattle.offset_pictures.proofs.Falling.{y_falls}
use Rattle.offset_pictures.proofs.step_lines.Group.column.Goals as goal
use Rattle.offset_pictures.proofs.step_lines.Group.column.Goals.{then-self, else-self}

pub returns-clause-within : goal.returns-clause-within
returns-clause-within c = λ value low high.
    let units : Axis = c.args.units.now in
    let above = y_falls units value c.args.self.now.most units.positive high in
    let below = y_falls units c.args.self.now.least value units.positive low in
    let top : c.in_tenths-top.result ≡ y_of units c.args.self.now.most = search rules in
    let bottom : c.if-self.bottom ≡ y_of units c.args.self.now.least =
    elim c.if-self.branch [
      | then-self w ↦ w.bottom-is ∙ top ∙ ap (y_of units) (sym w.if-self.true)
      | else-self w ↦ w.bottom-is ∙ w.in_tenths-bottom.ensures.is ∙ ap in_tenths (w.up-else-self.ensures.exact) ∙ ap (y_of units) w.from-else-self.ensures
    ] in
    (omega arith, omega arith)
