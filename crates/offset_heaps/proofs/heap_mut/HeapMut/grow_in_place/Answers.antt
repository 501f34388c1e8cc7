use Rattle.offset_heaps.proofs.Limited.{sound_changed, grows}
use Rattle.offset_heaps.proofs.heap_mut.HeapMut.grow_in_place.Goals as goal

pub invariant_of-heaps : goal.invariant_of-heaps
invariant_of-heaps g c = sound_changed _ _ _ _ _ _ _ _ _ c.heaps.invariant c.heap_mut.ensures.heap (grows _ _ _ _ _ c.grow_in_place-result.ensures)
    c.note.ensures.wide c.note.ensures.here c.note.ensures.others c.note.ensures.levels
