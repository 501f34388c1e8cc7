use Rattle.offset_calls.proofs.Common.{sym, subst, Takes}
use Rattle.offset_calls.specs.Calls.{reply_view}
use Rattle.offset_calls.proofs.playing.other.Goals as goal

pub returns-in-RoomCost-clause-takes : goal.returns-in-RoomCost-clause-takes
returns-in-RoomCost-clause-takes g c =
    let hs = c.args.player.now.handles.items in
    subst (λ k. Takes k c.args.player.now.space hs c.args.player.now.space hs (reply_view c.room_cost.result)) (sym c.in-RoomCost.is) (c.room_cost.ensures hs)

pub returns-in-RoomCostBy-clause-takes : goal.returns-in-RoomCostBy-clause-takes
returns-in-RoomCostBy-clause-takes g c =
    let hs = c.args.player.now.handles.items in
    subst (λ k. Takes k c.args.player.now.space hs c.args.player.now.space hs (reply_view c.room_cost_by.result)) (sym c.in-RoomCostBy.is) (c.room_cost_by.ensures hs)
