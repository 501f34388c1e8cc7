use Rattle.std.proofs.Common.{refl}
use Rattle.offset_guarded.proofs.Noted as noted
use Rattle.offset_guarded.proofs.laws.moves_are_listed.Goals as goal

pub returns-clause-compact : goal.returns-clause-compact
returns-clause-compact x c f f' g h r by = let n = noted.compacts_noted _ f f' g h r by in (n.0, (r, refl, n.1))

pub returns-clause-by : goal.returns-clause-by
returns-clause-by x c f f' g h s r by = let n = noted.compacts_by_noted _ f f' s g h r by in (n.0, (r, refl, n.1))

pub returns-clause-unaligned : goal.returns-clause-unaligned
returns-clause-unaligned x c f f' g h by = let n = noted.unaligned_noted _ f f' g h by in (n.0, (refl, n.1))

pub returns-clause-within : goal.returns-clause-within
returns-clause-within x c f f' g h from units ranges r by = let n = noted.compacts_within_noted _ f f' from units ranges g h r by in (n.0, (r, refl, n.1))

pub returns-clause-within_by : goal.returns-clause-within_by
returns-clause-within_by x c f f' g h s from units ranges r by = let n = noted.compacts_within_by_noted _ f f' s from units ranges g h r by in (n.0, (r, refl, n.1))

pub returns-clause-room : goal.returns-clause-room
returns-clause-room x c f f' g h n align r by = let m = noted.makes_room_noted _ f f' n align g h r by in (m.0, (r, refl, m.1))

pub returns-clause-room_by : goal.returns-clause-room_by
returns-clause-room_by x c f f' g h n align s r by = let m = noted.makes_room_by_noted _ f f' n align s g h r by in (m.0, (r, refl, m.1))

pub returns-clause-room_unaligned : goal.returns-clause-room_unaligned
returns-clause-room_unaligned x c f f' g h n r by = let m = noted.makes_room_unaligned_noted _ f f' n g h r by in (m.0, (r, refl, m.1))
