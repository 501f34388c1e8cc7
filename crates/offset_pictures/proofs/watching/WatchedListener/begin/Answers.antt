use Rattle.std.proofs.Common.{◌∙◌, ◌++◌, ◌∷◌, [], map, ap, ap₂, arith}
use Rattle.offset_script.specs.Machine.{answer_view}
use Rattle.offset_pictures.proofs.Watched.{first_report, same_size}
use Rattle.offset_pictures.proofs.watching.WatchedListener.begin.Goals as goal

pub returns : goal.returns
returns g c = λ s shown. record {
  answers = ap (map answer_view) c.in_ok-answers.ensures.items;
  reports = first_report c.storage_report.result _ s _ _ shown c.storage_report.ensures c.in_ok-reports.ensures.items c.in_ok-push.ensures.items;
  sizes = c.in_ok-push-2.ensures.items ∙ ap₂ (λ l n. l ++ n ∷ []) c.in_ok-sizes.ensures.items (same_size c.size.result _ s shown c.size.ensures (omega arith));
  refused = c.new.ensures.items;
}
