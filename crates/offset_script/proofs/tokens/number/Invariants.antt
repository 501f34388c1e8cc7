use Rattle.offset_script.proofs.Common.{◌≡◌, ◌^◌, ◌<◌, true, take, all_ascii_digits}
use Rattle.std.specs.Str.Parse.{digits_value}
use Rattle.offset_script.proofs.tokens.number.Given as goal

abbrev pub invariant-loop-b : goal.invariant-loop-b
invariant-loop-b l = record {
  digits : all_ascii_digits (take l.b-index l.word) ≡ true;
  value : l.n ≡ digits_value 10 (take l.b-index l.word);
  small : l.n < 10 ^ l.b-index;
}
