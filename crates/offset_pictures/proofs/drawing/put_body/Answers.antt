use Rattle.std.proofs.Common.{◌++◌, ◌∙◌, List, ℕ, sym, ap₂, subst, refl}
use Rattle.std.specs.Prelude.{string_bytes}
use Rattle.offset_allocator.specs.declared.reports.StorageReport.{StorageReport}
use Rattle.offset_pictures.specs.declared.course.Course.{Course}
use Rattle.offset_pictures.specs.declared.figures.Figures.{Figures}
use Rattle.offset_pictures.specs.declared.living.Life.{Life}
use Rattle.offset_pictures.specs.declared.plots.Plot.{Plot}
use Rattle.offset_pictures.specs.declared.refusing.Refused.{Refused}
use Rattle.offset_pictures.specs.{Legend.legend_text, Legend.notes_text, Rectangles.AreRectangles, StepLines.beyond_text, StepLines.reports_text, Marks.refusals_text, Ticks.axes_text}
use Rattle.offset_pictures.proofs.Drawn.{has_all, same_xs}
use Rattle.offset_pictures.proofs.drawing.put_body.Goals as goal

pub put_reports-requires-clause-xs : goal.put_reports-requires-clause-xs
put_reports-requires-clause-xs c =
    let x = c.ranges_plot-ranges.ensures.calls in
    let y = c.reports_plot-reports.ensures.calls in
    same_xs c.ranges_plot-ranges.result.calls c.reports_plot-reports.result.calls c.in_ok-xs.xs.items c.deref-5.result.now (x.0 ∙ sym y.0) (x.1 ∙ sym y.1) (x.2 ∙ sym y.2) c.deref-5.ensures.value
    c.in_ok-xs.ensures.xs

pub returns : goal.returns
returns c =
    let course : Course = c.args.course.now in
    let f : Figures = c.in_ok-figures.figures in
    let ranges : Plot = c.ranges_plot-ranges.result in
    let reports : Plot = c.reports_plot-reports.result in
    let rectangles : List ℕ = c.in_ok-merged.ensures.0 in (
      legend_text f course.max_allocs ranges.units.most ++ beyond_text ranges course ++ axes_text ranges 6 12 ++ rectangles ++ refusals_text ranges course.reports.items course.refused.items
          ++ reports_text reports course ++ axes_text reports 4 12 ++ notes_text c.in_ok-merged.merged,
      has_all (legend_text f course.max_allocs ranges.units.most) (beyond_text ranges course) (axes_text ranges 6 12) rectangles (refusals_text ranges course.reports.items course.refused.items)
          (reports_text reports course) (axes_text reports 4 12)
          (notes_text c.in_ok-merged.merged) _ _ _ _ _ _ _ _ _ c.in_ok-put_legend.ensures c.in_ok-put_beyond.ensures c.in_ok-put_axes.ensures c.in_ok-merged.ensures.1
          (c.in_ok-put_refusals.ensures
          ∙ ap₂ (λ (rs : List StorageReport) (calls : List Refused). string_bytes c.put_rectangles.new.out ++ refusals_text ranges rs calls) c.deref-3.ensures.value c.deref-4.ensures.value)
          c.in_ok-put_reports.ensures c.in_ok-put_axes-2.ensures
          c.in_ok-put_notes.ensures,
      record {
        figures = f;
        are = c.in_ok-figures.ensures;
        ranges = ranges;
        is_ranges = c.ranges_plot-ranges.ensures;
        reports = reports;
        is_reports = c.reports_plot-reports.ensures;
        rectangles = rectangles;
        merged = c.in_ok-merged.merged;
        are_rectangles = subst (λ (ls : List Life). AreRectangles ranges ls f.calls c.in_ok-merged.merged rectangles) c.deref-2.ensures.value c.in_ok-merged.ensures.2;
        is = refl;
      },
    )
