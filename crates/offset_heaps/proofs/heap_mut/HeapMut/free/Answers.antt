use Rattle.offset_heaps.proofs.Limited.{sound_changed, frees}
use Rattle.offset_heaps.proofs.heap_mut.HeapMut.free.Goals as goal

pub invariant_of-heaps : goal.invariant_of-heaps
invariant_of-heaps g c = sound_changed _ _ _ _ _ _ _ _ _ c.heaps.invariant c.heap_mut.ensures.heap (frees _ _ _ _ c.free-result.ensures)
    c.note.ensures.wide c.note.ensures.here c.note.ensures.others c.note.ensures.levels
