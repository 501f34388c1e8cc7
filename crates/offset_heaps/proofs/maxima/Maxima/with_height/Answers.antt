use Rattle.std.proofs.Common.{◌≡◌, ◌-◌, ◌^◌, replicate, ap, arith, ◌∙◌}
use Rattle.std.proofs.lemmas.List.{drop-replicate}
use Rattle.offset_heaps.proofs.maxima.Maxima.with_height.Goals as goal

pub returns-clause-keys : goal.returns-clause-keys
returns-clause-keys c =
    let all = c.loop-place.invariant in
    let power = c.requires.power in
    let half : c.loop-place._place - 2 ^ c.args.height ≡ c.args.places = omega arith in
    rw all (drop-replicate (2 ^ c.args.height) c.loop-place._place 0 ∙ ap (λ n. replicate n 0) half)
