use Rattle.std.proofs.Common.{◌≡◌, ◌++◌, ◌≤◌, length, take}
use Rattle.std.specs.Prelude.{chars, flat_map, string_bytes}
use Rattle.offset_pictures.specs.Titles.{escape}
use Rattle.offset_pictures.proofs.titles.put_escaped.Given as goal

-- the characters so far are written
abbrev pub invariant-loop-c : goal.invariant-loop-c
invariant-loop-c l = (length l.yielded ≤ length (chars l.text)) × (string_bytes l.out ≡ string_bytes l.fn.out ++ flat_map escape (take (length l.yielded) (chars l.text)))
