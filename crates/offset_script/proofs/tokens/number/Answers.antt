use Rattle.offset_script.proofs.Common.{arith, take, length, sym, ◌∙◌, take_all, eqb-true, pos_of_ne-zero, eqb-false}
use Rattle.offset_script.proofs.Numbers.{is_empty, is_long, has_other, is_read, goes_on_digits, goes_on_value, goes_on_small}
use Rattle.offset_script.proofs.tokens.number.Goals.{then-is_empty-via-then-is_empty, then-is_empty-via-else-is_empty+then-word-gt-MOST_DIGITS}
use Rattle.offset_script.proofs.tokens.number.Goals as goal

pub returns-then-is_empty : goal.returns-then-is_empty
returns-then-is_empty c = search (arith, then-is_empty-via-then-is_empty, is_empty, eqb-true, then-is_empty-via-else-is_empty+then-word-gt-MOST_DIGITS, is_long)

pub returns-then-not-is_ascii_digit : goal.returns-then-not-is_ascii_digit
returns-then-not-is_ascii_digit c = has_other c.args.word.now c.loop-b.b-index c.loop-b-test.true (sym c.is_ascii_digit.ensures.value ∙ c.if-not-is_ascii_digit.true)

pub loop-b-preserved : goal.loop-b-preserved
loop-b-preserved c = search (arith, goes_on_digits, goes_on_value, goes_on_small)

pub returns : goal.returns
returns c = search (arith, take, take_all, is_read, pos_of_ne-zero, eqb-false, length)
