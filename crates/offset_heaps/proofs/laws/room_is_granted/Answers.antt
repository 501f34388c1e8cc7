use Rattle.std.proofs.Common.{IfSome, ap, sym, subst, ◌∙◌, option_copied}
use Rattle.offset_allocator.specs.View.{IsWellFormed}
use Rattle.offset_heaps.specs.Heaps.{Heaps, IsOfKind, heap_at, top_limit}
use Rattle.offset_heaps.proofs.{Raising.raised_grants, Rooms.room_grants}
use Rattle.offset_heaps.proofs.laws.room_is_granted.Goals as goal

pub returns-in-Some-clause-largest : goal.returns-in-Some-clause-largest
returns-in-Some-clause-largest g c =
    let here = sym c.heap.ensures ∙ ap option_copied c.in-Some.is in
    rw here (λ h blocks units raised some. room_grants c.args.heaps.now.limits c.args.number (top_limit c.args.heaps.now.limits c.args.number c.in-Some.heap.now) blocks units c.in-Some.heap.now h
    (subst IsWellFormed c.allocator.ensures c.is_well_formed.ensures) raised (λ l. l, λ l. l) some)

pub returns-in-Some-clause-raised : goal.returns-in-Some-clause-raised
returns-in-Some-clause-raised g c =
    let here = sym c.heap.ensures ∙ ap option_copied c.in-Some.is in
    let kinds = subst (λ (hs : Heaps). IfSome (heap_at c.args.number hs) (IsOfKind hs.limits c.args.number)) c.heaps.view_is (c.heaps.invariant.kinds c.args.number) in
    let kind = rw here at kinds in
    rw here (λ h blocks units few raised some. raised_grants c.args.heaps.now.limits c.args.number blocks units c.in-Some.heap.now h few
    (subst IsWellFormed c.allocator.ensures c.is_well_formed.ensures) kind raised some)
