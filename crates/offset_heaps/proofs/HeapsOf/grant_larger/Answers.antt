use Rattle.std.proofs.Common.{Some, ◌+◌, ◌<◌, ◌≤◌, IfSome, length, ap, arith, subst, sym}
use Rattle.offset_guarded.specs.Answers as tickets
use Rattle.offset_heaps.specs.Heaps.{Heaps, GrantsNew, IsOfKind, larger_limit, numbers}
use Rattle.offset_heaps.proofs.{Grants.granted_larger, Shapes.kind_larger}
use Rattle.offset_heaps.proofs.HeapsOf.grant_larger.Goals as goal

pub returns-in-Ok-clause-grants : goal.returns-in-Ok-clause-grants
returns-in-Ok-clause-grants g c =
    let w = c.in-Ok.ensures.grants in
    let spare = c.requires.spare.1 in
    let all = c.self.invariant.numbers in
    let same = ap (λ (h : Heaps). length h.slots) c.self.view_is in
    let most = ap numbers c.self.view_is in
    let there : c.args.number < length c.args.self.now.slots = omega arith in
    let by = subst (λ (h : Heaps). GrantsNew (λ g h. tickets.AllocatesTight c.args.size g h (Some c.in-Ok.ticket)) c.args.size larger_limit (h.made + 1) c.args.align w.0) c.self.view_is w.2 in
    rw c.add.ensures.granted (granted_larger (λ t g h. tickets.AllocatesAligned c.args.size c.args.align g h (Some t)) c.args.size c.args.align c.args.self.now c.add.new.self c.args.number c.in-Ok.slot w.0 c.in-Ok.ticket there c.add.ensures.heaps w.1 c.requires.spare c.requires.unusual by)

pub add-requires-clause-kind : goal.add-requires-clause-kind
add-requires-clause-kind g c =
    let w = c.in-Ok.ensures.grants in
    let most = ap (λ (h : Heaps). h.limits.most) c.self.view_is in
    let past : c.self.inside.limits.most ≤ c.args.number = omega (arith, c.requires.spare.0, most) in
    subst (λ (h : Heaps). IfSome c.in-Ok.slot (IsOfKind h.limits c.args.number)) c.self.view_is
    (subst (λ o. IfSome o (IsOfKind c.self.inside.limits c.args.number)) (sym w.1)
    (kind_larger c.self.inside.limits c.args.number (c.self.inside.made + 1) c.args.size c.args.align c.in-Ok.ticket w.0 past c.requires.units w.2))
