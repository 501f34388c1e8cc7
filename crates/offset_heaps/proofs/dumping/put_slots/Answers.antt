use Rattle.std.proofs.Common.{add-one, subst, string_bytes}
use Rattle.offset_heaps.specs.Dumping.{AddsHeap}
use Rattle.offset_heaps.proofs.dumping.put_slots.Goals as goal

pub loop-number-preserved : goal.loop-number-preserved
loop-number-preserved g c = rw add-one (
  c.loop-number.first,
  string_bytes c.loop-number.text,
  c.loop-number.invariant,
  subst (λ o. AddsHeap c.loop-number.number o c.loop-number.first (string_bytes c.loop-number.text) c.in_ok-first.first (string_bytes c.put_slot.new.text)) c.at.ensures.heap c.in_ok-first.ensures,
)
