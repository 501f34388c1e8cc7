use Rattle.std.proofs.Common.{Some, refl}
use Rattle.offset_guarded.specs.Answers as tickets
use Rattle.offset_heaps.proofs.Grants.{granted_if_since}
use Rattle.offset_heaps.proofs.Holders.{grants_since, made_since, why_first_since, why_since}
use Rattle.offset_heaps.proofs.HeapsOf.serve_tight.Goals as goal

pub returns-in-Some-clause-grants : goal.returns-in-Some-clause-grants
returns-in-Some-clause-grants g c =
    granted_if_since (λ t g h. tickets.AllocatesTightAligned c.args.size c.args.align g h (Some t)) c.args.size c.args.align c.args.self.now c.first_holding.new.self c.grant_tight_first.new.self c.grant_tight_first.result c.first_holding.ensures.same c.grant_tight_first.ensures.grants

pub returns-in-Some-clause-why : goal.returns-in-Some-clause-why
returns-in-Some-clause-why g c = why_first_since c.args.size c.args.align c.args.self.now c.first_holding.new.self c.first_holding.ensures.same c.grant_tight_first.result c.grant_tight_first.ensures.why

pub returns-in-None-clause-grants : goal.returns-in-None-clause-grants
returns-in-None-clause-grants g c =
    grants_since c.args.size c.args.align c.args.self.now c.first_holding.new.self c.first_holding.ensures.same (λ t g h. tickets.AllocatesTightAligned c.args.size c.args.align g h (Some t))
    (λ t g h. tickets.AllocatesAligned c.args.size c.args.align g h (Some t)) c.grant_new.new.self c.grant_new.result c.grant_new.ensures.made c.grant_new.ensures.grants

pub returns-in-None-clause-why : goal.returns-in-None-clause-why
returns-in-None-clause-why g c =
    why_since c.args.size c.args.align c.args.self.now c.first_holding.new.self c.first_holding.ensures.same c.grant_new.result c.in-None.ensures.first (c.in-None.ensures.less refl) c.grant_new.ensures.why

pub returns-in-None-clause-made : goal.returns-in-None-clause-made
returns-in-None-clause-made g c =
    made_since c.args.size c.args.align c.args.self.now c.first_holding.new.self c.first_holding.ensures.same c.grant_new.result c.in-None.ensures.first c.grant_new.ensures.made
