use Rattle.std.proofs.Common.{◌∙◌, ◌++◌, ap, arith, List, ℕ}
use Rattle.offset_guarded.proofs.Bytes.{number_added}
use Rattle.offset_guarded.proofs.numbers.push_number.Goals as goal

pub returns : goal.returns
returns c k e =
    number_added k c.args.number c.args.bytes.now.items _ (omega (arith, c.ranges.number)) (c.in_ok-extend_from_slice.ensures.items
    ∙ ap (λ (l : List ℕ). c.args.bytes.now.items ++ l) c.to_le_bytes.ensures) e
