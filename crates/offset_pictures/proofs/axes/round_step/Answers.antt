use Rattle.std.proofs.Common.{◌*◌, ◌∙◌, ap₂, arith, sym}
use Rattle.offset_pictures.specs.Scales.{round_numbers}
use Rattle.offset_pictures.proofs.Stepped.{passed, taken}
use Rattle.offset_pictures.proofs.axes.round_step.Goals as goal

pub returns-then-from-clause-is : goal.returns-then-from-clause-is
returns-then-from-clause-is c =
    let product = ap₂ (λ a b. a * b) c.from.ensures c.from-in-loop-step.ensures in
    sym (c.loop-step.invariant ∙ taken c.args.most c.args.count round_numbers c.loop-step.step-index (omega arith) (omega (arith, product)))

pub loop-step-preserved : goal.loop-step-preserved
loop-step-preserved c =
    let product = ap₂ (λ a b. a * b) c.from.ensures c.from-in-loop-step.ensures in
    c.loop-step.invariant ∙ passed c.args.most c.args.count round_numbers c.loop-step.step-index (omega arith) (omega (arith, product))
