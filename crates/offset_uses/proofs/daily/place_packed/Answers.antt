use Rattle.std.proofs.Common.{◌≡◌, subst}
use Rattle.offset_allocator.specs.Requests.{IsWhy}
use Rattle.offset_allocator.specs.declared.reports.Refusal.TheVariants.{TooLarge, Fragmented}
use Rattle.offset_uses.proofs.daily.place_packed.Goals as goal

-- one compaction makes room
pub unwrap-requires-in-Some-Fragmented : goal.unwrap-requires-in-Some-Fragmented
unwrap-requires-in-Some-Fragmented c =
    let why = subst (IsWhy 1 c.args.size c.args.space.now) c.in-Some-Fragmented.field-0-is c.in-Some-Fragmented.ensures.why in
    c.allocate-in-Some-Fragmented.ensures.can_grant.1 ((c.refusals_advise.ensures.compacted 1 c.args.size c.defragment.new.space why.0 why.2 c.defragment.ensures.step).0 why)

pub returns-in-Some-TooLarge-clause-granted : goal.returns-in-Some-TooLarge-clause-granted
returns-in-Some-TooLarge-clause-granted c h =
    let why = subst (IsWhy 1 c.args.size c.args.space.now) c.in-Some-TooLarge.field-0-is c.in-Some-TooLarge.ensures.why in
    let e : TooLarge ≡ Fragmented = c.refusals_advise.ensures.one 1 c.args.size TooLarge Fragmented why h in absurd (cc)
