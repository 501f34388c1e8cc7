use Rattle.offset_calls.proofs.Common.{◌≡◌, ◌≤◌, length, map, take, All, reply_view, IsGrantOf, AreAllTickets}
use Rattle.offset_calls.proofs.Along.{IsPlayed}
use Rattle.offset_calls.proofs.guarded.play_guarded.Given as goal

-- the calls so far were played, and the tickets are those of all grants, of the realm
abbrev pub invariant-loop-call : goal.invariant-loop-call
invariant-loop-call g l = record {
  all_tickets : AreAllTickets l.player.space l.player.tickets.items;
  few : length l.player.tickets.items ≤ l.call-index;
  played : IsPlayed l.size l.max_allocs l.player.space l.player.tickets.items (take l.call-index l.calls) l.replies.items;
  realm : l.player.space.realm ≡ l.realm;
  granted : All (IsGrantOf (map reply_view l.replies.items)) l.player.tickets.items;
}
