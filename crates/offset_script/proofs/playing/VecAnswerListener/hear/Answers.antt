use Rattle.offset_script.proofs.{Common.map, Common.map-append, Common.ap, Common.◌∙◌, Common.answer_view, Heard.one_more}
use Rattle.offset_script.proofs.playing.VecAnswerListener.hear.Goals as goal

pub returns : goal.returns
returns g c = λ s cs told heard.
    one_more cs s c.args._command _ _ _ told.answer heard (ap (map answer_view) c.in_ok-push.ensures.items ∙ map-append answer_view c.args.self.now.items _)
