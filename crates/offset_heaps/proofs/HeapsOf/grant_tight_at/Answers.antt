use Rattle.std.proofs.Common.{Some, ◌<◌, length, ap, arith, subst, sym}
use Rattle.offset_allocator.specs.Requests.{blocks_needed}
use Rattle.offset_guarded.specs.Answers as tickets
use Rattle.offset_heaps.specs.{Heaps.Heaps, Heaps.MustRaiseIn, Heaps.slot, Slots.CanHoldIn}
use Rattle.offset_heaps.proofs.{Finding.levels, Grants.granted_at, Limited.asks_tight_aligned, Limited.sound_altered, Rooms.holds_now}
use Rattle.offset_heaps.proofs.HeapsOf.grant_tight_at.Goals as goal

pub fill-ticket-requires-clause-holds : goal.fill-ticket-requires-clause-holds
fill-ticket-requires-clause-holds g c =
    let stays = subst (λ (h : Heaps). MustRaiseIn h.limits c.args.number (blocks_needed c.args.align) (slot c.args.number h.slots) → ⊥) (sym c.self.view_is) c.requires.stays in
    let held = subst (λ (h : Heaps). CanHoldIn h.limits c.args.number c.args.size c.args.align (slot c.args.number h.slots)) (sym c.self.view_is) c.requires.holds in
    holds_now c.self.inside.limits c.args.number c.args.size c.args.align (slot c.args.number c.self.inside.slots) (c.self.invariant.kinds c.args.number) stays held

pub invariant_of-self : goal.invariant_of-self
invariant_of-self g c =
    let change = c.fill-ticket.ensures.grants in
    sound_altered _ _ _ _ _ _ _ _ _ c.self.invariant change (asks_tight_aligned _ _ _ _ _ change.by.by) c.note.ensures.wide c.note.ensures.here c.note.ensures.others c.note.ensures.levels

pub returns-clause-grants : goal.returns-clause-grants
returns-clause-grants g c =
    let there : c.args.number < length c.self.inside.slots = let l = c.requires.there in let e = ap (λ (h : Heaps). length h.slots) c.self.view_is in omega arith in
    let stays = subst (λ (h : Heaps). MustRaiseIn h.limits c.args.number (blocks_needed c.args.align) (slot c.args.number h.slots) → ⊥) (sym c.self.view_is) c.requires.stays in
    rw (c.of.ensures, ← c.self.view_is) (granted_at (λ t g h. tickets.AllocatesTightAligned c.args.size c.args.align g h (Some t)) c.args.size c.args.align c.self.inside.slots c.fill-ticket.new.self c.self.inside.limits c.self.inside.made
    c.self.inside.realm c.self.inside.accesses c.note.new.count c.args.number c.fill-ticket.result there stays c.fill-ticket.ensures.grants)

pub returns-clause-accesses : goal.returns-clause-accesses
returns-clause-accesses g c bits enough =
    let low = levels g.T.Index.NodeIndex.MAX c.self.inside.slots c.self.inside.limits c.self.inside.made c.self.inside.index c.self.invariant c.self.inside.realm c.self.inside.accesses
    c.args.self.now c.self.view_is bits enough in
    let start = ap (λ (h : Heaps). h.accesses) c.self.view_is in
    omega arith
