use Rattle.offset_heaps.proofs.Limited.{sound_changed, asks_tight_aligned}
use Rattle.offset_heaps.proofs.heap_mut.HeapMut.allocate_tight_aligned.Goals as goal

pub invariant_of-heaps : goal.invariant_of-heaps
invariant_of-heaps g c = sound_changed _ _ _ _ _ _ _ _ _ c.heaps.invariant c.heap_mut.ensures.heap (asks_tight_aligned _ _ _ _ _ c.allocate_tight_aligned-result.ensures)
    c.note.ensures.wide c.note.ensures.here c.note.ensures.others c.note.ensures.levels
