use Rattle.offset_script.proofs.{Common.ap, Common.subst, Common.false, Common.◌∙◌, Common.List, Common.ℕ, Ending.piece_failed}
use Rattle.offset_script.specs.Sending.{Pushes}
use Rattle.offset_script.proofs.sending.push_pieces.Goals as goal

pub returns-then-not-push_all-clause-sent : goal.returns-then-not-push_all-clause-sent
returns-then-not-push_all-clause-sent g c =
    let held = g.K.Sink.held in
    piece_failed (λ piece. piece.items) c.args.pieces.now c.loop-part.part-index c.part-item.result (held c.args.output.now) (held c.loop-part.output) (held c.push_all.new.output)
    c.loop-part-test.true c.loop-part.invariant.sent
    (subst (λ (t : List ℕ). Pushes false t (held c.loop-part.output) (held c.push_all.new.output)) (c.deref.ensures.value ∙ ap (λ piece. piece.items) c.part-item.is) c.if-not-push_all.ensures.sent)
