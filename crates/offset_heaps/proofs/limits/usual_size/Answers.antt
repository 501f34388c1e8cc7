use Rattle.std.proofs.Common.{arith, min, ◌^◌, ◌%◌, ◌*◌, ◌∙◌, ap}
use Rattle.offset_heaps.proofs.Doubling.{doubled_at_most}
use Rattle.offset_heaps.proofs.limits.usual_size.Goals as goal

pub returns : goal.returns
returns c =
    let limits = c.args.limits in
    c.min-2.ensures ∙ ap (λ k. min ((limits.first_size * 2 ^ k) % 2 ^ 64) limits.size) c.min.ensures
    ∙ doubled_at_most limits.first_size limits.size c.args.number (omega arith) (omega arith)
