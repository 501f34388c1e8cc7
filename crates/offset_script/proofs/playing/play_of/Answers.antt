use Rattle.offset_script.proofs.{Common.map, Common.answer_view, Answered.are_answers, Heard.if_ok_both}
use Rattle.offset_script.proofs.playing.play_of.Goals as goal

pub returns : goal.returns
returns g c =
    let a = c.args in
    if_ok_both c.play_to.result (λ found. are_answers a.size a.max_allocs a.commands.now (map answer_view found.items) c.requires.low)
    c.play_to.ensures.heard c.play_to.ensures.steps
