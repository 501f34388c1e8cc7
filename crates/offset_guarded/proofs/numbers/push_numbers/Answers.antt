use Rattle.std.proofs.Common.{◌≡◌, ◌∙◌, ◌+◌, ◌++◌, ◌∷◌, [], ap, sym, arith, take, take_all, append_assoc, get_or, length, List, ℕ}
use Rattle.std.proofs.lemmas.List.{take_more}
use Rattle.offset_guarded.specs.Numbers.{numbers}
use Rattle.offset_guarded.proofs.numbers.push_numbers.Goals as goal

pub loop-number-preserved : goal.loop-number-preserved
loop-number-preserved c k e =
    let i : ℕ = c.loop-number.number-index in
    let old : List ℕ = c.args.bytes.now.items in
    let more : List ℕ = c.args.more.now in
    let so_far = c.loop-number.invariant k e in
    let r = c.in_ok-push_number.ensures (k + i) so_far.1 in (
      ap (λ n. numbers n c.push_number.new.bytes.items) {x = k + (i + 1)} {y = k + i + 1} (omega arith) ∙ r.0 ∙ ap (λ l. l ++ get_or more i 0 ∷ []) so_far.0
          ∙ append_assoc (numbers k old) (take i more) (get_or more i 0 ∷ []) ∙ ap (λ l. numbers k old ++ l) (sym (take_more more i 0 (omega (arith, c.loop-number-test.true)))),
      r.1 ∙ omega arith,
    )

pub returns : goal.returns
returns c k e =
    let i : ℕ = c.loop-number.number-index in
    let more : List ℕ = c.args.more.now in
    let so_far = c.loop-number.invariant k e in
    let all : i ≡ length more = omega (arith, c.loop-number-test.false, c.loop-number.auto.number-index-end) in (
      ap (λ n. numbers (k + n) c.loop-number.bytes.items) (sym all) ∙ so_far.0 ∙ ap (λ l. numbers k c.args.bytes.now.items ++ l) (take_all i more (omega (arith, all))),
      so_far.1 ∙ omega (arith, all),
    )
