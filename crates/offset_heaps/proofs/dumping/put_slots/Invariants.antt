use Rattle.std.proofs.Common.{string_bytes}
use Rattle.offset_heaps.specs.Dumping.{AddsHeaps}
use Rattle.offset_heaps.proofs.dumping.put_slots.Given as goal

-- the heaps so far
abbrev pub invariant-loop-number : goal.invariant-loop-number
invariant-loop-number g l = AddsHeaps l.number l.slots (string_bytes l.fn.text) l.first (string_bytes l.text)
