use Rattle.std.proofs.Common.{◌≡◌, ◌≤◌, length, take}
use Rattle.std.specs.Prelude.{chars}
use Rattle.offset_pictures.specs.Titles.{quarters}
use Rattle.offset_pictures.proofs.titles.quarters.Given as goal

-- the width of the characters so far
abbrev pub invariant-loop-c : goal.invariant-loop-c
invariant-loop-c l = (length l.yielded ≤ length (chars l.text)) × (l.width ≡ quarters (take (length l.yielded) (chars l.text)))
