use Rattle.std.proofs.Common.{Some, ◌<◌, ◌≤◌, length, max, ap, arith, subst, sym}
use Rattle.offset_allocator.specs.{Requests.blocks_needed, Requests.units_needed}
use Rattle.offset_guarded.specs.Answers as tickets
use Rattle.offset_heaps.specs.Heaps.{Heaps, MustRaiseIn, room_of, slot}
use Rattle.offset_heaps.proofs.{Finding.levels, Grants.granted_at, Limited.asks_aligned, Limited.sound_altered, Rooms.room_now}
use Rattle.offset_heaps.proofs.HeapsOf.grant_at.Goals as goal

pub grant-ticket-requires-clause-room : goal.grant-ticket-requires-clause-room
grant-ticket-requires-clause-room g c =
    let stays = subst (λ (h : Heaps). MustRaiseIn h.limits c.args.number (blocks_needed c.args.align) (slot c.args.number h.slots) → ⊥) (sym c.self.view_is) c.requires.stays in
    let fits = subst (λ (h : Heaps). max 1 (units_needed c.args.size c.args.align) ≤ room_of h.limits c.args.number (blocks_needed c.args.align) (slot c.args.number h.slots)) (sym c.self.view_is) c.requires.room in
    room_now c.self.inside.limits c.args.number (blocks_needed c.args.align) (max 1 (units_needed c.args.size c.args.align)) (slot c.args.number c.self.inside.slots) (c.self.invariant.kinds c.args.number) stays (omega arith) fits

pub invariant_of-self : goal.invariant_of-self
invariant_of-self g c =
    let change = c.grant-ticket.ensures.grants in
    sound_altered _ _ _ _ _ _ _ _ _ c.self.invariant change (asks_aligned _ _ _ _ _ change.by.by) c.note.ensures.wide c.note.ensures.here c.note.ensures.others c.note.ensures.levels

pub returns-clause-grants : goal.returns-clause-grants
returns-clause-grants g c =
    let there : c.args.number < length c.self.inside.slots = let l = c.requires.there in let e = ap (λ (h : Heaps). length h.slots) c.self.view_is in omega arith in
    let stays = subst (λ (h : Heaps). MustRaiseIn h.limits c.args.number (blocks_needed c.args.align) (slot c.args.number h.slots) → ⊥) (sym c.self.view_is) c.requires.stays in
    rw (c.of.ensures, ← c.self.view_is) (granted_at (λ t g h. tickets.AllocatesAligned c.args.size c.args.align g h (Some t)) c.args.size c.args.align c.self.inside.slots c.grant-ticket.new.self c.self.inside.limits c.self.inside.made
    c.self.inside.realm c.self.inside.accesses c.note.new.count c.args.number c.grant-ticket.result there stays c.grant-ticket.ensures.grants)

pub returns-clause-accesses : goal.returns-clause-accesses
returns-clause-accesses g c bits enough =
    let low = levels g.T.Index.NodeIndex.MAX c.self.inside.slots c.self.inside.limits c.self.inside.made c.self.inside.index c.self.invariant c.self.inside.realm c.self.inside.accesses
    c.args.self.now c.self.view_is bits enough in
    let start = ap (λ (h : Heaps). h.accesses) c.self.view_is in
    omega arith
