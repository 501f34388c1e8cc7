use Rattle.offset_calls.proofs.{Common.◌∙◌, Common.ap, Collected.one_more}
use Rattle.std.specs.Prelude.{slice_index}
use Rattle.offset_calls.proofs.sliding.numbered.Goals as goal

pub loop-i-preserved : goal.loop-i-preserved
loop-i-preserved g c = one_more (slice_index c.args.numbers.now.by_name.items) c.args.slides.now c.loop-i.found.items _ c.loop-i.i _ _ _ c.loop-i-test.true c.loop-i.invariant
    c.in_ok-push.ensures.items (c.of.ensures ∙ ap (slice_index c.args.numbers.now.by_name.items) c.name.ensures.number)
