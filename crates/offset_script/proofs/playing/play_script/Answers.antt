use Rattle.offset_script.proofs.{Common.map, Common.answer_view, Answered.are_answers, Heard.if_ok_both}
use Rattle.offset_script.proofs.playing.play_script.Goals as goal

pub returns : goal.returns
returns c =
    let s = c.args.script.now in
    if_ok_both c.play_script_to.result (λ found. are_answers s.size s.max_allocs s.commands.items (map answer_view found.items) s.low)
    c.play_script_to.ensures.heard c.play_script_to.ensures.steps
