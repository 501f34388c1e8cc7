use Rattle.std.proofs.Common.{refl}
use Rattle.offset_allocator.specs.Resizing as resize
use Rattle.offset_guarded.specs.Answers as tickets
use Rattle.offset_heaps.proofs.Changes.{put, resized_kept, resized_not, resized_others, resized_refused}
use Rattle.offset_heaps.proofs.Limited.{sound_changed, grows}
use Rattle.offset_heaps.proofs.HeapsOf.grow_in_place.Goals as goal

pub invariant_of-self-2 : goal.invariant_of-self-2
invariant_of-self-2 g c = sound_changed _ _ _ _ _ _ _ _ _ c.self.invariant c.heap_mut.ensures.heap (grows _ _ _ _ _ c.grow_in_place-result.ensures)
    c.note.ensures.wide c.note.ensures.here c.note.ensures.others c.note.ensures.levels

pub returns-clause-step : goal.returns-clause-step
returns-clause-step g c = rw (← c.self.view_is, c.in_ok-number.ensures.heap) (λ some. rw (c.in_ok-number.ensures.heap, c.in_ok-number.ensures.ticket) at (put (λ x y. tickets.Grows c.in_ok-number.ticket c.args.size x y c.grow_in_place-result.result) c.in_ok-number.number c.self.inside.slots c.self.inside.limits c.self.inside.made c.self.inside.realm c.self.inside.accesses c.note.new.count _ _ c.heap_mut.ensures.heap c.grow_in_place-result.ensures))

pub returns-clause-others : goal.returns-clause-others
returns-clause-others g c = rw (← c.self.view_is, c.in_ok-number.ensures.heap) (resized_others c.args.place c.args.size (resize.CanGrow c.args.place.name c.args.size) (resize.Grows c.args.place.name c.args.size) _ _ c.grow_in_place-result.result (rw (← c.self.view_is) at (c.in_ok-number.ensures.own.0 refl))
    (rw (c.in_ok-number.ensures.heap, c.in_ok-number.ensures.ticket) at (put (λ x y. tickets.Grows c.in_ok-number.ticket c.args.size x y c.grow_in_place-result.result) c.in_ok-number.number c.self.inside.slots c.self.inside.limits c.self.inside.made c.self.inside.realm c.self.inside.accesses c.note.new.count _ _ c.heap_mut.ensures.heap c.grow_in_place-result.ensures)))

pub returns-clause-kept : goal.returns-clause-kept
returns-clause-kept g c = rw (← c.self.view_is, c.in_ok-number.ensures.heap) (resized_kept c.args.place c.args.size (resize.CanGrow c.args.place.name c.args.size) (resize.Grows c.args.place.name c.args.size) _ _ c.grow_in_place-result.result (rw (← c.self.view_is) at (c.in_ok-number.ensures.own.0 refl))
    (rw (c.in_ok-number.ensures.heap, c.in_ok-number.ensures.ticket) at (put (λ x y. tickets.Grows c.in_ok-number.ticket c.args.size x y c.grow_in_place-result.result) c.in_ok-number.number c.self.inside.slots c.self.inside.limits c.self.inside.made c.self.inside.realm c.self.inside.accesses c.note.new.count _ _ c.heap_mut.ensures.heap c.grow_in_place-result.ensures)))

pub returns-clause-refused : goal.returns-clause-refused
returns-clause-refused g c = rw (← c.self.view_is, c.in_ok-number.ensures.heap) (resized_refused c.args.place c.args.size (resize.CanGrow c.args.place.name c.args.size) (resize.Grows c.args.place.name c.args.size) _ _ c.grow_in_place-result.result (rw (← c.self.view_is) at (c.in_ok-number.ensures.own.0 refl))
    (rw (c.in_ok-number.ensures.heap, c.in_ok-number.ensures.ticket) at (put (λ x y. tickets.Grows c.in_ok-number.ticket c.args.size x y c.grow_in_place-result.result) c.in_ok-number.number c.self.inside.slots c.self.inside.limits c.self.inside.made c.self.inside.realm c.self.inside.accesses c.note.new.count _ _ c.heap_mut.ensures.heap c.grow_in_place-result.ensures)))

pub returns-clause-not_live : goal.returns-clause-not_live
returns-clause-not_live g c = rw (← c.self.view_is, c.in_ok-number.ensures.heap) (resized_not c.args.place c.args.size (resize.CanGrow c.args.place.name c.args.size) (resize.Grows c.args.place.name c.args.size) _ _ c.grow_in_place-result.result (rw (← c.self.view_is) at (c.in_ok-number.ensures.own.0 refl))
    (rw (c.in_ok-number.ensures.heap, c.in_ok-number.ensures.ticket) at (put (λ x y. tickets.Grows c.in_ok-number.ticket c.args.size x y c.grow_in_place-result.result) c.in_ok-number.number c.self.inside.slots c.self.inside.limits c.self.inside.made c.self.inside.realm c.self.inside.accesses c.note.new.count _ _ c.heap_mut.ensures.heap c.grow_in_place-result.ensures)))
