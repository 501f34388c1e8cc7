use Rattle.std.proofs.Common.{sym}
use Rattle.offset_allocator.specs.Reporting.Walking as Walking
use Rattle.offset_heaps.specs.Heaps.{heap_at}
use Rattle.offset_heaps.proofs.LivePlaces.{found_of}
use Rattle.offset_heaps.proofs.HeapsOf.last_live.Goals as goal

pub returns-in-Some : goal.returns-in-Some
returns-in-Some g c = found_of Walking.last_live c.args.number c.args.self.now.realm c.in-Some.guarded.now (heap_at c.args.number c.args.self.now) c.last_live.result c.place_at.result
    (sym c.in-Some.ensures) c.last_live.ensures c.place_at.ensures
