use Rattle.offset_calls.proofs.{Common.refl, Collected.room_by_folds, Collected.room_folds, Collected.slid_as, Collected.within_folds}
use Rattle.offset_calls.specs.declared.calls.Call.TheVariants as call
use Rattle.offset_calls.proofs.sliding.slide.Goals as goal

pub returns-in-Compact : goal.returns-in-Compact
returns-in-Compact g c = slid_as _ _ call.Compact _ _ _ _ _ c.in-Compact.is (_, c.compact.ensures.moved, (c.compact.ensures.step, refl, refl))

pub returns-in-CompactBy : goal.returns-in-CompactBy
returns-in-CompactBy g c = slid_as _ _ (call.CompactBy c.in-CompactBy.step) _ _ _ _ _ c.in-CompactBy.is (_, c.compact_by.ensures.moved, (_, c.compact_by.ensures.step, c.done.ensures, refl))

pub returns-in-CompactWithin : goal.returns-in-CompactWithin
returns-in-CompactWithin g c =
    let a = c.in-CompactWithin in
    let f = within_folds _ _ _ _ _ _ _ _ _ _ c.compact_within.ensures.step in
    slid_as _ _ (call.CompactWithin a.step a.from a.most_units a.most_ranges) _ _ _ _ _ a.is (f.0, f.1, (_, f.2, c.so_far.ensures))

pub returns-in-MakeRoom : goal.returns-in-MakeRoom
returns-in-MakeRoom g c =
    let f = room_folds _ _ _ _ _ _ _ c.make_room.ensures.step in
    slid_as _ _ (call.MakeRoom c.in-MakeRoom.size) _ _ _ _ _ c.in-MakeRoom.is (f.0, f.1, (_, c.make_room.ensures.cost, f.2, refl))

pub returns-in-MakeRoomBy : goal.returns-in-MakeRoomBy
returns-in-MakeRoomBy g c =
    let a = c.in-MakeRoomBy in
    let f = room_by_folds _ _ _ _ _ _ _ _ _ c.make_room_by.ensures.step in
    slid_as _ _ (call.MakeRoomBy a.size a.align a.step) _ _ _ _ _ a.is (f.0, f.1, (_, c.make_room_by.ensures.cost, f.2, refl))
