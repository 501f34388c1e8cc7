use Rattle.std.proofs.Common.{Some}
use Rattle.offset_allocator.specs.Requests.{blocks_needed, units_needed}
use Rattle.offset_guarded.specs.Answers as tickets
use Rattle.offset_heaps.proofs.{Finders.fits, Grants.not_live_if, Grants.others_if, Grants.range_if, Refusals.no_room}
use Rattle.offset_heaps.proofs.HeapsOf.allocate_aligned.Goals as goal

pub returns-clause-no_room : goal.returns-clause-no_room
returns-clause-no_room g c =
    no_room (fits (blocks_needed c.args.align) (units_needed c.args.size c.args.align)) c.args.size c.args.align c.args.self.now c.serve.result c.serve.ensures.empty c.serve.ensures.why c.serve.ensures.found c.serve.ensures.made

pub returns-clause-not_live : goal.returns-clause-not_live
returns-clause-not_live g c = not_live_if (λ t g h. tickets.AllocatesAligned c.args.size c.args.align g h (Some t)) c.args.size c.args.align (λ t g h a. a.request) c.args.self.now c.serve.new.self c.serve.result c.serve.ensures.grants

pub returns-clause-range : goal.returns-clause-range
returns-clause-range g c = range_if (λ t g h. tickets.AllocatesAligned c.args.size c.args.align g h (Some t)) c.args.size c.args.align (λ t g h a. a.request) c.args.self.now c.serve.new.self c.serve.result c.serve.ensures.grants

pub returns-clause-others : goal.returns-clause-others
returns-clause-others g c = others_if (λ t g h. tickets.AllocatesAligned c.args.size c.args.align g h (Some t)) c.args.size c.args.align (λ t g h a. a.request) c.args.self.now c.serve.new.self c.serve.result c.serve.ensures.grants
