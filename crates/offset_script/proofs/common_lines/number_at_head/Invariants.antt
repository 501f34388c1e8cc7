use Rattle.offset_script.proofs.Common.{◌≡◌, ◌^◌, ◌<◌, true, take, all_ascii_digits}
use Rattle.std.specs.Str.Parse.{digits_value}
use Rattle.offset_script.proofs.common_lines.number_at_head.Given as goal

abbrev pub invariant-loop-i : goal.invariant-loop-i
invariant-loop-i l = record {
  digits : all_ascii_digits (take l.i l.text) ≡ true;
  value : l.n ≡ digits_value 10 (take l.i l.text);
  small : l.n < 10 ^ l.i;
}
