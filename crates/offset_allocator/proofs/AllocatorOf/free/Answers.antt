use Rattle.offset_allocator.proofs.Common.{◌≡◌}
use Rattle.offset_allocator.proofs.AllocatorOf.free.Goals as goal

pub release-requires : goal.release-requires
release-requires g c = let e : c.name.result ≡ c.args.allocation.name = cc in record { live = rw e c.requires.live }
