use Rattle.std.proofs.Common.{◌∙◌, ◌++◌, ◌∷◌, [], ℕ, ap, arith, subst}
use Rattle.offset_heaps.specs.State.{IsHeapState}
use Rattle.offset_heaps.proofs.States.{all_pushed, pushed_more}
use Rattle.offset_heaps.proofs.save.states_of.Goals as goal

pub loop-number-preserved : goal.loop-number-preserved
loop-number-preserved g c =
    let e = c.in_ok-push_state.ensures in
    pushed_more c.loop-number.number c.args.slots.now c.loop-number.places.items c.loop-number.states.items e.0 c.push-in-loop-number.new.self.items c.push_state.new.states.items
    c.loop-number.invariant (subst (λ o. IsHeapState o e.0) c.at.ensures.heap e.1) e.2
    (c.in_ok-push-2.ensures.items ∙ ap (λ (m : ℕ). c.loop-number.places.items ++ m ∷ []) (omega (arith, c.len.ensures)))

pub returns : goal.returns
returns g c =
    all_pushed c.loop-number.number c.args.slots.now c.loop-number.places.items c.loop-number.states.items (omega (arith, c.requires, c.loop-number-test.false, c.loop-number.auto.number-end))
    c.loop-number.invariant
