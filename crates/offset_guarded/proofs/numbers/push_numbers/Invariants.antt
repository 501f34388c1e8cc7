use Rattle.std.proofs.Common.{◌≡◌, ◌+◌, ◌*◌, ◌++◌, ℕ, length, take}
use Rattle.offset_guarded.specs.Numbers.{numbers}
use Rattle.offset_guarded.proofs.numbers.push_numbers.Given as goal

abbrev pub invariant-loop-number : goal.invariant-loop-number
invariant-loop-number l = (k : ℕ) → length l.fn.bytes.items ≡ 8 * k
    → (numbers (k + l.number-index) l.bytes.items ≡ numbers k l.fn.bytes.items ++ take l.number-index l.more) × (length l.bytes.items ≡ 8 * (k + l.number-index))
