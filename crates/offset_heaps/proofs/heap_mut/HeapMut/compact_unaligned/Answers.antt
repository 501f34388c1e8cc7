use Rattle.offset_heaps.proofs.Limited.{sound_changed, compacts_unaligned}
use Rattle.offset_heaps.proofs.heap_mut.HeapMut.compact_unaligned.Goals as goal

pub invariant_of-heaps : goal.invariant_of-heaps
invariant_of-heaps g c = sound_changed _ _ _ _ _ _ _ _ _ c.heaps.invariant c.heap_mut.ensures.heap (compacts_unaligned _ _ _ _ _ c.compact_unaligned-result.ensures)
    c.note.ensures.wide c.note.ensures.here c.note.ensures.others c.note.ensures.levels
