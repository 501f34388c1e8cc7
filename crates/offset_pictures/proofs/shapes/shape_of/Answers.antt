use Rattle.std.proofs.Common.{◌≡◌, ◌+◌, arith, ap, ◌∙◌}
use Rattle.offset_pictures.specs.declared.living.Life.{Life}
use Rattle.offset_pictures.specs.declared.plots.Plot.{Plot}
use Rattle.offset_pictures.specs.Axes.{right_of, up_of}
use Rattle.offset_pictures.proofs.Merged.{along_capped}
use Rattle.offset_pictures.proofs.shapes.shape_of.Goals as goal

pub returns-clause-shape : goal.returns-clause-shape
returns-clause-shape c =
    let plot : Plot = c.args.plot.now in
    let life : Life = c.args.life.now in
    let top : c.up.result ≡ up_of plot.units (life.offset + life.size) = c.up.ensures.exact ∙ ap (up_of plot.units) (omega arith) in
    let bottom : c.up-2.result ≡ up_of plot.units life.offset = c.up-2.ensures.exact ∙ ap (up_of plot.units) (omega arith) in
    let left : c.right.result ≡ right_of plot.calls (life.first + 1) =
    c.right.ensures.exact ∙ ap (λ x. plot.calls.start + x) (along_capped plot.calls.span plot.calls.most c.saturating_add.result (life.first + 1) c.right.ensures.small c.saturating_add.ensures) in
    let right : c.right-2.result ≡ right_of plot.calls (life.last + 1) =
    c.right-2.ensures.exact ∙ ap (λ x. plot.calls.start + x)
    (along_capped plot.calls.span plot.calls.most c.saturating_add-2.result (life.last + 1) c.right-2.ensures.small c.saturating_add-2.ensures) in
    let age = c.age_of.ensures.age in
    cc
