use Rattle.std.proofs.Common.{◌≡◌, ◌∙◌, List, ℕ, map, ap, subst}
use Rattle.std.specs.Prelude.{OnOk, string_bytes}
use Rattle.offset_pictures.specs.declared.course.Course.{Course}
use Rattle.offset_pictures.specs.declared.plots.Plot.{Plot}
use Rattle.offset_pictures.specs.Levels.{free_of, joined_of, most_of}
use Rattle.offset_pictures.proofs.Held.{reports_are_put}
use Rattle.offset_pictures.proofs.drawing.put_reports.Goals as goal

pub returns : goal.returns
returns c =
    let plot : Plot = c.args.plot.now in
    let course : Course = c.args.course.now in
    let reports = c.deref.ensures.value in
    let text = reports_are_put plot course c.bottom-base.result _ _ _ (string_bytes c.args.out.now) _ _ c.bottom-base.ensures.is
    (c.deref-2.ensures.value ∙ c.in_ok-levels.ensures.free ∙ ap (map free_of) reports)
    (c.deref-3.ensures.value ∙ c.in_ok-levels.ensures.joined ∙ ap (map joined_of) reports)
    (c.deref-4.ensures.value ∙ c.in_ok-levels.ensures.most ∙ ap (map most_of) reports)
    c.in_ok-put_line.ensures c.in_ok-put_line-2.ensures in
    subst (λ (t : List ℕ). OnOk c.put_line-3.result (string_bytes c.put_line-3.new.out ≡ t)) text c.put_line-3.ensures
