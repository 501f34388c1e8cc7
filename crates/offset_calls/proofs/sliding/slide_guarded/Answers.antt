use Rattle.offset_calls.proofs.{Common.refl, Collected.room_by_folds, Collected.room_folds, Collected.slid_as, Collected.within_folds}
use Rattle.offset_calls.specs.declared.calls.Call.TheVariants as call
use Rattle.offset_calls.proofs.sliding.slide_guarded.Goals as goal

pub returns-in-Compact-clause-step : goal.returns-in-Compact-clause-step
returns-in-Compact-clause-step g c = slid_as _ _ call.Compact _ _ _ _ _ c.in-Compact.is (_, c.compact_unaligned.ensures.moved, (c.compact_unaligned.ensures.step, refl, refl))

pub returns-in-CompactBy-clause-step : goal.returns-in-CompactBy-clause-step
returns-in-CompactBy-clause-step g c = slid_as _ _ (call.CompactBy c.in-CompactBy.step) _ _ _ _ _ c.in-CompactBy.is (_, c.compact_by.ensures.moved, (_, c.compact_by.ensures.step, c.done.ensures, refl))

pub returns-in-CompactWithin-clause-step : goal.returns-in-CompactWithin-clause-step
returns-in-CompactWithin-clause-step g c =
    let a = c.in-CompactWithin in
    let f = within_folds _ _ _ _ _ _ _ _ _ _ c.compact_within_by.ensures.step in
    slid_as _ _ (call.CompactWithin a.step a.from a.most_units a.most_ranges) _ _ _ _ _ a.is (f.0, f.1, (_, f.2, c.so_far.ensures))

pub returns-in-MakeRoom-clause-step : goal.returns-in-MakeRoom-clause-step
returns-in-MakeRoom-clause-step g c =
    let f = room_folds _ _ _ _ _ _ _ c.make_room_unaligned.ensures.step in
    slid_as _ _ (call.MakeRoom c.in-MakeRoom.size) _ _ _ _ _ c.in-MakeRoom.is (f.0, f.1, (_, c.make_room_unaligned.ensures.cost, f.2, refl))

pub returns-in-MakeRoomBy-clause-step : goal.returns-in-MakeRoomBy-clause-step
returns-in-MakeRoomBy-clause-step g c =
    let a = c.in-MakeRoomBy in
    let f = room_by_folds _ _ _ _ _ _ _ _ _ c.make_room_by.ensures.step in
    slid_as _ _ (call.MakeRoomBy a.size a.align a.step) _ _ _ _ _ a.is (f.0, f.1, (_, c.make_room_by.ensures.cost, f.2, refl))
