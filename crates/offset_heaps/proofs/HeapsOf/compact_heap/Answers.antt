use Rattle.std.proofs.Common.{refl}
use Rattle.offset_guarded.specs.Guard as guarded
use Rattle.offset_heaps.proofs.{Alignments.alters_keep, Alignments.same_keeps, Changes.put, Changes.sizes_kept, Places.shown}
use Rattle.offset_heaps.proofs.Limited.{sound_changed, compacts}
use Rattle.offset_heaps.proofs.HeapsOf.compact_heap.Goals as goal

pub invariant_of-self-2 : goal.invariant_of-self-2
invariant_of-self-2 g c = sound_changed _ _ _ _ _ _ _ _ _ c.self.invariant c.heap_mut.ensures.heap (compacts _ _ _ _ _ _ c.compact-result.ensures)
    c.note.ensures.wide c.note.ensures.here c.note.ensures.others c.note.ensures.levels

pub returns-clause-sizes : goal.returns-clause-sizes
returns-clause-sizes g c = rw (← c.self.view_is) (sizes_kept c.args.number guarded.KeepsSizes _ _ (λ g h a. a) (put guarded.KeepsSizes c.args.number c.self.inside.slots c.self.inside.limits c.self.inside.made c.self.inside.realm c.self.inside.accesses c.note.new.count _ _ c.heap_mut.ensures.heap c.compact-result.ensures.sizes))

pub returns-clause-aligned : goal.returns-clause-aligned
returns-clause-aligned g c = rw (← c.self.view_is) (alters_keep c.args.number guarded.KeepsAlignments _ _ (λ g h a. a) (put guarded.KeepsAlignments c.args.number c.self.inside.slots c.self.inside.limits c.self.inside.made c.self.inside.realm c.self.inside.accesses c.note.new.count _ _ c.heap_mut.ensures.heap c.compact-result.ensures.aligned))

pub returns-then-not-has-clause-aligned : goal.returns-then-not-has-clause-aligned
returns-then-not-has-clause-aligned g c =
    let old = shown c.self.inside.slots c.self.inside.limits c.self.inside.made c.self.inside.realm c.self.inside.accesses in
    let new = shown c.self.inside.slots c.self.inside.limits c.self.inside.made c.self.inside.realm c.has.new.count in
    rw (← c.self.view_is) (same_keeps old new refl)
