use Rattle.std.proofs.Common.{Some}
use Rattle.offset_guarded.specs.Answers as tickets
use Rattle.offset_heaps.proofs.{Finders.holds, Grants.not_live_if, Grants.others_if, Grants.range_if, Refusals.no_room}
use Rattle.offset_heaps.proofs.HeapsOf.allocate_tight_aligned.Goals as goal

pub returns-clause-no_room : goal.returns-clause-no_room
returns-clause-no_room g c =
    no_room (holds c.args.size c.args.align) c.args.size c.args.align c.args.self.now c.serve_tight.result c.serve_tight.ensures.empty c.serve_tight.ensures.why c.serve_tight.ensures.found c.serve_tight.ensures.made

pub returns-clause-not_live : goal.returns-clause-not_live
returns-clause-not_live g c = not_live_if (λ t g h. tickets.AllocatesTightAligned c.args.size c.args.align g h (Some t)) c.args.size c.args.align (λ t g h a. a.request) c.args.self.now c.serve_tight.new.self c.serve_tight.result c.serve_tight.ensures.grants

pub returns-clause-range : goal.returns-clause-range
returns-clause-range g c = range_if (λ t g h. tickets.AllocatesTightAligned c.args.size c.args.align g h (Some t)) c.args.size c.args.align (λ t g h a. a.request) c.args.self.now c.serve_tight.new.self c.serve_tight.result c.serve_tight.ensures.grants

pub returns-clause-others : goal.returns-clause-others
returns-clause-others g c = others_if (λ t g h. tickets.AllocatesTightAligned c.args.size c.args.align g h (Some t)) c.args.size c.args.align (λ t g h a. a.request) c.args.self.now c.serve_tight.new.self c.serve_tight.result c.serve_tight.ensures.grants
