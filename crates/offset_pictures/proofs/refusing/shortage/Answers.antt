use Rattle.offset_pictures.proofs.Reasoned.{why_is}
use Rattle.offset_allocator.specs.Requests.{blocks_needed, units_needed}
use Rattle.offset_pictures.proofs.refusing.shortage.Goals as goal

pub returns-in-Some : goal.returns-in-Some
returns-in-Some g c = why_is c.args.space.now c.is_well_formed.ensures (blocks_needed c.args.align) (units_needed c.args.size c.args.align) c.in-Some.why c.in-Some.ensures.why
