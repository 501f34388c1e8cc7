use Rattle.std.proofs.Common.{◌∙◌, ◌+◌, ◌*◌, ◌%◌, ap, ap₂, sym, ℕ, List}
use Rattle.std.proofs.Math.Nat.{mod-add-mod}
use Rattle.offset_guarded.proofs.Bytes.{checksum_more, numbers_more}
use Rattle.offset_guarded.specs.Numbers.{checksum_from, number_at, numbers}
use Rattle.offset_guarded.proofs.numbers.checksum.Goals as goal

pub loop-place-preserved : goal.loop-place-preserved
loop-place-preserved c =
    let bs : List ℕ = c.args.bytes.now in
    let i : ℕ = c.loop-place.place in
    mod-add-mod (c.loop-place.sum * 1099511628211) 18446744073709551616 c.number.result
    ∙ ap₂ (λ (s n : ℕ). (s * 1099511628211 + n) % 18446744073709551616) c.loop-place.invariant c.number.ensures
    ∙ sym (checksum_more 0 (number_at bs i) (numbers i bs)) ∙ ap (checksum_from 0) (sym (numbers_more i bs))
