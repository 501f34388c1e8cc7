use Rattle.std.proofs.Common.{◌≡◌, Bool, ap, false, is_some, subst}
use Rattle.offset_guarded.proofs.Twins.{same_twin}
use Rattle.offset_heaps.specs.Extending.{ExtendsIf}
use Rattle.offset_heaps.proofs.Changes.{alike, kept_of_places, put}
use Rattle.offset_heaps.proofs.{Limited.sound_kind, Longer.kind_longer, Longer.range_longer, Longer.realm_longer, Longer.refused_same, Numbers.slot_there}
use Rattle.offset_heaps.proofs.HeapsOf.extend_heap.Goals as goal

pub invariant_of-self-2 : goal.invariant_of-self-2
invariant_of-self-2 g c =
    let by = c.in_ok-done.ensures.change in
    sound_kind _ _ _ _ _ _ _ _ _ c.self.invariant c.heap_mut.ensures.heap (realm_longer _ _ _ _ _ _ by) (kind_longer _ _ _ _ _ _ by) c.note.ensures.wide c.note.ensures.here c.note.ensures.others c.note.ensures.levels

pub returns-clause-kept : goal.returns-clause-kept
returns-clause-kept g c =
    let P = ExtendsIf c.self.inside.limits c.args.number c.args.more c.in_ok-done.done in
    let a = put P c.args.number c.self.inside.slots c.self.inside.limits c.self.inside.made c.self.inside.realm c.self.inside.accesses c.note.new.count _ _ c.heap_mut.ensures.heap c.in_ok-done.ensures.change in
    rw (← c.self.view_is) (kept_of_places c.args.number P _ _ (slot_there c.self.inside.slots c.args.number (ap is_some c.heap_mut.ensures.heap)) a (λ r. r) (range_longer _ _ _ _ _ _ a.by))

pub returns-clause-refused : goal.returns-clause-refused
returns-clause-refused g c e =
    let P = ExtendsIf c.self.inside.limits c.args.number c.args.more c.in_ok-done.done in
    let a = put P c.args.number c.self.inside.slots c.self.inside.limits c.self.inside.made c.self.inside.realm c.self.inside.accesses c.note.new.count _ _ c.heap_mut.ensures.heap c.in_ok-done.ensures.change in
    let undone : c.in_ok-done.done ≡ false = cc in
    rw (← c.self.view_is) (alike c.args.number P _ _ (slot_there c.self.inside.slots c.args.number (ap is_some c.heap_mut.ensures.heap)) a
    (same_twin a.before a.after (refused_same c.self.inside.limits c.args.number c.args.more a.before a.after (subst (λ (b : Bool). ExtendsIf c.self.inside.limits c.args.number c.args.more b a.before a.after) undone a.by))))

pub returns-clause-step : goal.returns-clause-step
returns-clause-step g c =
    let P = ExtendsIf c.self.inside.limits c.args.number c.args.more c.in_ok-done.done in
    rw (← c.self.view_is) (λ some. put P c.args.number _ _ _ _ _ _ _ _ c.heap_mut.ensures.heap c.in_ok-done.ensures.change)

pub returns-clause-done : goal.returns-clause-done
returns-clause-done g c = rw (← c.self.view_is, c.heap_mut.ensures.heap) c.in_ok-done.ensures.done
