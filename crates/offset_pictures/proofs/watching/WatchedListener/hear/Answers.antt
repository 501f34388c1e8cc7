use Rattle.std.proofs.Common.{◌≡◌, ◌∙◌, length, map, ap, arith}
use Rattle.std.proofs.lemmas.List.{length-map, map-append}
use Rattle.offset_script.specs.Machine.{answer_view}
use Rattle.offset_script.proofs.Heard.{one_more}
use Rattle.offset_pictures.proofs.{Backward.answers_count, Reasoned.is_refused, Watched.report_more, Watched.refused_more, Watched.size_more}
use Rattle.offset_pictures.proofs.watching.WatchedListener.hear.Goals as goal

pub note-requires-clause-refuses : goal.note-requires-clause-refuses
note-requires-clause-refuses g c = let taken = c.requires.told.1.taken in is_refused c.args.command taken.0 _ taken.1 taken.2 _ taken.3

pub returns : goal.returns
returns g c = λ s cs told seen.
    let number : c.len-calls.result ≡ length cs =
    omega (arith, c.len-calls.ensures, length-map c.args.self.now.answers.items answer_view, ap length seen.answers, answers_count cs s) in
    record {
      answers = one_more cs s c.args.command _ _ _ told.answer seen.answers (ap (map answer_view) c.in_ok-push.ensures.items ∙ map-append answer_view c.args.self.now.answers.items _);
      reports = report_more cs s c.args.command _ _ _ _ _ told c.storage_report.ensures seen.reports c.in_ok-push-2.ensures.items;
      sizes = size_more cs s c.args.command _ _ _ _ c.size.result told c.size.ensures (omega arith) seen.sizes c.in_ok-push-3.ensures.items;
      refused = refused_more cs s c.args.command _ _ c.len-calls.result _ _ told number seen.refused c.in_ok-note.ensures;
    }
