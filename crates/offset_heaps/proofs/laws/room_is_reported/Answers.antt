use Rattle.offset_heaps.proofs.Rooms.{room_reported, room_under}
use Rattle.offset_heaps.proofs.laws.room_is_reported.Goals as goal

pub returns-clause-largest : goal.returns-clause-largest
returns-clause-largest c limits k g h r left raised report = room_under limits k g h r left raised report

pub returns-clause-own : goal.returns-clause-own
returns-clause-own c limits k g r left below more report = room_reported limits k g r left below more report
