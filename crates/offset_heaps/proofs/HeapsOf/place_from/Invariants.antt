use Rattle.std.proofs.Common.{◌≡◌}
use Rattle.offset_heaps.specs.Numbering.{first_from}
use Rattle.offset_heaps.proofs.HeapsOf.place_from.Given as goal

-- no heap so far has a live range
abbrev pub invariant-loop-number : goal.invariant-loop-number
invariant-loop-number g l = first_from l.from l.self ≡ first_from l.number l.self
