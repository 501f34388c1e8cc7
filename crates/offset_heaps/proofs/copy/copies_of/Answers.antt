use Rattle.std.proofs.Common.{◌≡◌, ◌∙◌, ap, arith, length}
use Rattle.std.proofs.lemmas.List.{length-set}
use Rattle.offset_heaps.specs.{Heaps.slot, State.quiet}
use Rattle.offset_heaps.proofs.States.{all_quiet, put_more}
use Rattle.offset_heaps.proofs.copy.copies_of.Goals as goal

pub loop-number-preserved : goal.loop-number-preserved
loop-number-preserved g c =
    let old = c.loop-number.copies in
    let n = c.loop-number.number in
    let there = c.loop-number-test.true in
    record {
      long = ap length c.put.ensures.heaps ∙ length-set old n c.in_ok-copy.copy ∙ c.loop-number.invariant.long;
      copied = rw c.put.ensures.heaps (put_more (λ k o. o ≡ quiet (slot k c.args.slots.now)) old n c.in_ok-copy.copy (omega (arith, c.loop-number.invariant.long, there))
          (c.in_ok-copy.ensures ∙ ap quiet c.at.ensures.heap) c.loop-number.invariant.copied);
    }

pub returns : goal.returns
returns g c =
    all_quiet c.args.slots.now c.loop-number.copies (omega (arith, c.loop-number.invariant.long, c.requires))
    (λ k l. c.loop-number.invariant.copied k (omega (arith, l, c.requires, c.loop-number-test.false)))
