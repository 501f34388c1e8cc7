use Rattle.offset_calls.proofs.{Common.◌≡◌, Common.◌∙◌, Common.ap, Common.get_or, Common.Ticket, Common.serial_of, Collected.one_more}
use Rattle.offset_calls.proofs.sliding.with_serials.Goals.{in-None, in-Some}
use Rattle.offset_calls.proofs.sliding.with_serials.Goals as goal

pub loop-i-preserved : goal.loop-i-preserved
loop-i-preserved g c =
    let serial : c.match-ticket.number ≡ serial_of (get_or c.args.slides.now c.loop-i.i c.index-slides-i.result).0.name c.args.space.now = elim c.match-ticket.branch [
      | in-None w ↦ absurd (c.requires.live c.loop-i.i _ c.loop-i-test.true w.in-None.ensures)
      | in-Some w ↦ w.number-is ∙ w.serial-number.ensures ∙ ap (λ (t : Ticket). t.serial) w.in-Some.ensures.0
    ] in
    one_more (λ x. serial_of x c.args.space.now) c.args.slides.now c.loop-i.found.items _ c.loop-i.i _ _ _ c.loop-i-test.true c.loop-i.invariant c.in_ok-push.ensures.items serial
