use Rattle.std.proofs.Common.{◌≡◌}
use Rattle.offset_guarded.specs.Numbers.{checksum_from, numbers}
use Rattle.offset_guarded.proofs.numbers.checksum.Given as goal

abbrev pub invariant-loop-place : goal.invariant-loop-place
invariant-loop-place l = l.sum ≡ checksum_from 0 (numbers l.place l.bytes)
