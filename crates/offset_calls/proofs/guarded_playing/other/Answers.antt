use Rattle.offset_calls.proofs.{Common.refl, Tickets.question_serves}
use Rattle.offset_calls.specs.declared.calls.Call.TheVariants as call
use Rattle.offset_calls.proofs.guarded_playing.other.Goals as goal

pub returns-in-Refusal : goal.returns-in-Refusal
returns-in-Refusal g c k is_number = question_serves (call.Refusal c.in-Refusal.size) _ _ _ k _ _ (λ _ cells. refl) (λ s. refl) c.requires.all_tickets c.in-Refusal.is refl c.allocator.ensures
    (λ hs. ((refl, refl), (_, (c.refusal.ensures.granted, c.refusal.ensures.why), refl)))

pub returns-in-RefusalAligned : goal.returns-in-RefusalAligned
returns-in-RefusalAligned g c k is_number = question_serves (call.RefusalAligned c.in-RefusalAligned.size c.in-RefusalAligned.align) _ _ _ k _ _ (λ _ cells. refl) (λ s. refl) c.requires.all_tickets c.in-RefusalAligned.is refl
    c.allocator-in-RefusalAligned.ensures (λ hs. ((refl, refl), (_, (c.refusal_aligned.ensures.granted, c.refusal_aligned.ensures.why), refl)))

pub returns-in-RefusalTight : goal.returns-in-RefusalTight
returns-in-RefusalTight g c k is_number = question_serves (call.RefusalTight c.in-RefusalTight.size) _ _ _ k _ _ (λ _ cells. refl) (λ s. refl) c.requires.all_tickets c.in-RefusalTight.is refl c.allocator-in-RefusalTight.ensures
    (λ hs. ((refl, refl), (_, (c.refusal_tight.ensures.granted, c.refusal_tight.ensures.why), refl)))

pub returns-in-RefusalTightAligned : goal.returns-in-RefusalTightAligned
returns-in-RefusalTightAligned g c k is_number = question_serves (call.RefusalTightAligned c.in-RefusalTightAligned.size c.in-RefusalTightAligned.align) _ _ _ k _ _ (λ _ cells. refl) (λ s. refl) c.requires.all_tickets
    c.in-RefusalTightAligned.is refl c.allocator-in-RefusalTightAligned.ensures (λ hs. ((refl, refl), (_, (c.refusal_tight_aligned.ensures.granted, c.refusal_tight_aligned.ensures.why), refl)))

pub returns-in-RoomCost : goal.returns-in-RoomCost
returns-in-RoomCost g c k is_number = question_serves (call.RoomCost c.in-RoomCost.size) _ _ _ k _ _ (λ _ cells. refl) (λ s. refl) c.requires.all_tickets c.in-RoomCost.is refl c.allocator-in-RoomCost.ensures
    c.room_cost.ensures

pub returns-in-RoomCostBy : goal.returns-in-RoomCostBy
returns-in-RoomCostBy g c k is_number = question_serves (call.RoomCostBy c.in-RoomCostBy.size c.in-RoomCostBy.align c.in-RoomCostBy.step) _ _ _ k _ _ (λ _ cells. refl) (λ s. refl) c.requires.all_tickets c.in-RoomCostBy.is refl
    c.allocator-in-RoomCostBy.ensures c.room_cost_by.ensures
