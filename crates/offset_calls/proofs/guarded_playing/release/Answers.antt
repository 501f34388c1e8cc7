use Rattle.offset_calls.proofs.{Common.ap, Common.◌∙◌, Common.live_name, Tickets.freed}
use Rattle.offset_calls.proofs.guarded_playing.release.Goals as goal

pub returns-then-free : goal.returns-then-free
returns-then-free g c ts k is is_number =
    freed _ _ ts c.in-Some.ticket k is (is_number ∙ ap (λ o. live_name o c.args.space.now) c.in-Some.is) (c.free.ensures.done.0 c.if-free.true) (c.free.ensures.step c.if-free.true)
    c.free.ensures.others
    c.free.ensures.gone c.free.ensures.serials
