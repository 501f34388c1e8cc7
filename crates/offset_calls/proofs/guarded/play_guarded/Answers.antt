use Rattle.offset_calls.proofs.Common.{◌<◌, ℕ, length, subst, arith, take_all, IsWellFormed, AreInOrder}
use Rattle.offset_calls.specs.declared.guarded.TicketCall.{TicketCall}
use Rattle.offset_calls.specs.{Histories.renumber, Playing.IsAppended, Tickets.IsNumberOf, Tickets.TakesTicket, Tickets.passed}
use Rattle.offset_calls.proofs.{Along.all_granted, Along.all_kept_played, Along.ends, Along.goes_on, Along.none_granted, Along.starts, Tickets.no_tickets}
use Rattle.offset_calls.proofs.guarded.play_guarded.Goals as goal

pub loop-call-init : goal.loop-call-init
loop-call-init g c = search (arith, no_tickets, length, starts, none_granted)

pub loop-call-preserved : goal.loop-call-preserved
loop-call-preserved g c =
    let cs = c.args.calls.now in
    let i = c.loop-call.call-index in
    let ts = c.loop-call.player.tickets.items in
    let within : i < length cs = omega arith in
    let old = c.loop-call.player.space in
    let now = c.append.new.player.space in
    let us = c.append.new.player.tickets.items in
    goes_on c.args.size c.args.max_allocs c.args.realm c.requires.low old now ts us cs i c.call-item.result
    c.loop-call.replies.items c.append.new.replies.items
    c.loop-call.invariant.all_tickets c.loop-call.invariant.few c.loop-call.invariant.played c.loop-call.invariant.realm c.loop-call.invariant.granted
    (subst IsWellFormed c.allocator-in-loop-call.ensures c.is_well_formed-in-loop-call.ensures) within
    c.requires.valid
    (subst (λ (x : TicketCall). IsAppended (λ r. (k : ℕ) → IsNumberOf k (passed ts x) old ts → TakesTicket (renumber (λ j. k) x.call) old ts now us r)
    c.loop-call.replies.items c.append.new.replies.items) c.call-item.is c.in_ok-append.ensures)

pub append-requires-clause-left : goal.append-requires-clause-left
append-requires-clause-left g c = search (arith)

pub append-requires-clause-kept : goal.append-requires-clause-kept
append-requires-clause-kept g c = all_kept_played _ _ _ _ _ _ c.requires.low c.loop-call.invariant.played

pub returns-clause-replies : goal.returns-clause-replies
returns-clause-replies g c = search (arith, ends, take_all)

pub returns-clause-tickets : goal.returns-clause-tickets
returns-clause-tickets g c = subst (λ r. AreInOrder r 0 c.loop-call.player.tickets.items) c.loop-call.invariant.realm c.loop-call.invariant.all_tickets.order

pub returns-clause-count : goal.returns-clause-count
returns-clause-count g c = search (arith, all_granted, take_all)

pub returns-clause-offsets : goal.returns-clause-offsets
returns-clause-offsets g c = c.loop-call.invariant.granted
