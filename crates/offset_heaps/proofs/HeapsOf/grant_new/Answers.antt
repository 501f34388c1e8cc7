use Rattle.std.proofs.Common.{Some, ◌≡◌, ◌≤◌, arith, inl, inr, rules}
use Rattle.offset_heaps.specs.Heaps.{IsUsual}
use Rattle.offset_guarded.specs.Answers as tickets
use Rattle.offset_heaps.proofs.Grants.{granted_if_since, next_made}
use Rattle.offset_heaps.proofs.HeapsOf.grant_new.Goals as goal

pub returns-in-Some-spare_larger-clause-grants : goal.returns-in-Some-spare_larger-clause-grants
returns-in-Some-spare_larger-clause-grants g c =
    granted_if_since (λ t g h. tickets.AllocatesAligned c.args.size c.args.align g h (Some t)) c.args.size c.args.align c.args.self.now c.spare_larger.new.self c.grant_larger.new.self c.grant_larger.result c.spare_larger.ensures.same c.grant_larger.ensures.grants

pub returns-in-Some-spare_larger-clause-made : goal.returns-in-Some-spare_larger-clause-made
returns-in-Some-spare_larger-clause-made g c =
    let unusual : IsUsual c.args.size c.args.self.now → ⊥ = search rules in
    next_made c.args.size c.in-Some-spare_larger.number c.args.self.now c.spare_larger.new.self c.grant_larger.result c.spare_larger.ensures.same
    (λ left. (left, inr (unusual, c.in-Some-spare_larger.ensures.first.0, c.in-Some-spare_larger.ensures.first.1))) c.grant_larger.ensures.made

pub returns-in-Some-clause-grants : goal.returns-in-Some-clause-grants
returns-in-Some-clause-grants g c =
    granted_if_since (λ t g h. tickets.AllocatesAligned c.args.size c.args.align g h (Some t)) c.args.size c.args.align c.args.self.now c.spare_usual.new.self c.grant_usual.new.self c.grant_usual.result c.spare_usual.ensures.same c.grant_usual.ensures.grants

pub returns-in-Some-clause-made : goal.returns-in-Some-clause-made
returns-in-Some-clause-made g c =
    let usual : IsUsual c.args.size c.args.self.now = search rules in
    next_made c.args.size c.in-Some.number c.args.self.now c.spare_usual.new.self c.grant_usual.result c.spare_usual.ensures.same
    (λ left. (left, inl (usual, c.in-Some.ensures.first.0, c.in-Some.ensures.first.1))) c.grant_usual.ensures.made

pub returns-then-self-eq0-clause-why : goal.returns-then-self-eq0-clause-why
returns-then-self-eq0-clause-why g c =
    let unusual : IsUsual c.args.size c.args.self.now → ⊥ = search rules in
    let none : c.args.self.now.limits.most_larger ≡ 0 = search rules in
    ((c.requires.size, c.requires.none), λ may. elim may [ inl u ↦ unusual u | inr some ↦ omega (arith, some, none) ])

pub returns-in-None-spare_larger-clause-why : goal.returns-in-None-spare_larger-clause-why
returns-in-None-spare_larger-clause-why g c =
    let unusual : IsUsual c.args.size c.args.self.now → ⊥ = search rules in
    let some : 1 ≤ c.args.self.now.limits.most_larger = search (arith, rules) in (
      (c.requires.size, c.requires.none),
      inr some,
      λ k next. elim next.1 [ inl u ↦ unusual u.0 | inr l ↦ c.in-None-spare_larger.ensures.first k l.1 ],
    )
