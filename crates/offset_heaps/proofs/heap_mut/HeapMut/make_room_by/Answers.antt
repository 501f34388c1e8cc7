use Rattle.offset_heaps.proofs.Limited.{sound_changed, makes_room_by}
use Rattle.offset_heaps.proofs.heap_mut.HeapMut.make_room_by.Goals as goal

pub invariant_of-heaps : goal.invariant_of-heaps
invariant_of-heaps g c = sound_changed _ _ _ _ _ _ _ _ _ c.heaps.invariant c.heap_mut.ensures.heap (makes_room_by _ _ _ _ _ _ _ _ _ c.make_room_by-result.ensures)
    c.note.ensures.wide c.note.ensures.here c.note.ensures.others c.note.ensures.levels
