use Rattle.std.proofs.Common.{Some}
use Rattle.offset_guarded.specs.Answers as tickets
use Rattle.offset_heaps.proofs.Grants.{granted_if_since}
use Rattle.offset_heaps.proofs.HeapsOf.serve.Goals as goal

pub returns-in-None-clause-grants : goal.returns-in-None-clause-grants
returns-in-None-clause-grants g c =
    granted_if_since (λ t g h. tickets.AllocatesAligned c.args.size c.args.align g h (Some t)) c.args.size c.args.align c.args.self.now c.first_fit.new.self c.grant_new.new.self c.grant_new.result c.first_fit.ensures.same c.grant_new.ensures.grants

pub returns-in-Some-clause-grants : goal.returns-in-Some-clause-grants
returns-in-Some-clause-grants g c =
    granted_if_since (λ t g h. tickets.AllocatesAligned c.args.size c.args.align g h (Some t)) c.args.size c.args.align c.args.self.now c.first_fit.new.self c.grant_first.new.self c.grant_first.result c.first_fit.ensures.same c.grant_first.ensures.grants
