use Rattle.offset_script.proofs.{Common.◌∙◌, Common.ap, Common.answers, Common.start, Common.text_of, Simulation.if_ok}
use Rattle.std.proofs.lemmas.List.{map-id}
use Rattle.offset_script.proofs.answer_text.text_of_answers.Goals as goal

pub returns : goal.returns
returns c =
    let script = c.args.script.now in
    if_ok c.pieces.result (λ v is. is ∙ c.in_ok-text.ensures.heard ∙ ap (λ l. text_of (answers l (start script.size script.max_allocs))) (map-id script.commands.items)) c.pieces.ensures
