use Rattle.std.proofs.Common.{◌≡◌, ◌∙◌, ◌+◌, ◌++◌, ◌∷◌, [], ap, ap₂, arith, length, List, ℕ}
use Rattle.offset_guarded.specs.Numbers.{checksum_from, numbers}
use Rattle.offset_guarded.proofs.numbers.bytes_with_checksum.Goals as goal

pub checksum-sum-requires : goal.checksum-sum-requires
checksum-sum-requires c =
    let a = c.in_ok-push_numbers.ensures 0 (ap length c.new-bytes.ensures.items) in
    let b = c.in_ok-push_numbers-2.ensures (length c.args.first.now) (omega (arith, a.1)) in
    omega (arith, b.1, ap length c.deref.ensures.value)

pub returns-clause-numbers : goal.returns-clause-numbers
returns-clause-numbers c =
    let first : List ℕ = c.args.first.now in
    let more : List ℕ = c.args.more.now in
    let n : ℕ = length first + length more in
    let a = c.in_ok-push_numbers.ensures 0 (ap length c.new-bytes.ensures.items) in
    let b = c.in_ok-push_numbers-2.ensures (length first) (omega (arith, a.1)) in
    let all : numbers n c.push_numbers-2.new.bytes.items ≡ first ++ more =
    b.0 ∙ ap (λ l. l ++ more) (ap (λ k. numbers k c.push_numbers.new.bytes.items) {x = length first} {y = 0 + length first} (omega arith) ∙ a.0) in
    let sum : c.checksum-sum.result ≡ checksum_from 0 (first ++ more) =
    c.checksum-sum.ensures ∙ ap (λ (l : List ℕ). checksum_from 0 (numbers n l)) c.deref.ensures.value ∙ ap (checksum_from 0) all in
    (c.in_ok-push_number.ensures n b.1).0 ∙ ap₂ (λ (l : List ℕ) (m : ℕ). l ++ m ∷ []) all sum

pub returns-clause-length : goal.returns-clause-length
returns-clause-length c =
    let a = c.in_ok-push_numbers.ensures 0 (ap length c.new-bytes.ensures.items) in
    let b = c.in_ok-push_numbers-2.ensures (length c.args.first.now) (omega (arith, a.1)) in
    (c.in_ok-push_number.ensures (length c.args.first.now + length c.args.more.now) b.1).1
