use Rattle.std.proofs.Common.{◌≡◌, ap, arith, refl, subst, sym}
use Rattle.offset_allocator.specs.Tight.{CanHold, IsWhyTight}
use Rattle.offset_guarded.specs.Guard.{Guard, HasSerialLeft, last_serial}
use Rattle.offset_guarded.proofs.Guards.{why_for}
use Rattle.offset_guarded.proofs.GuardedOf.refusal_tight_aligned.Goals as goal

pub returns-then-is_spent-clause-granted : goal.returns-then-is_spent-clause-granted
returns-then-is_spent-clause-granted g c =
    (λ e. absurd (cc), λ h. absurd (omega (arith, h.0, c.if-is_spent.ensures.spent.0 refl, ap (λ (k : Guard). k.given) c.self.view_is)))

pub returns-in-None-clause-granted : goal.returns-in-None-clause-granted
returns-in-None-clause-granted g c =
    (λ e. subst (λ (k : Guard). HasSerialLeft k × CanHold c.args.size c.args.align k.space) c.self.view_is (c.is_spent.ensures.left c.if-is_spent.false, c.in-None.ensures.granted.0 refl), λ h. refl)

pub returns-in-Some-clause-granted : goal.returns-in-Some-clause-granted
returns-in-Some-clause-granted g c = (
  λ e. absurd (cc),
  λ h. absurd (let none = c.in-Some.ensures.granted.1 (subst (λ (k : Guard). CanHold c.args.size c.args.align k.space) (sym c.self.view_is) h.1) in cc),
)

pub returns-in-Some-clause-why : goal.returns-in-Some-clause-why
returns-in-Some-clause-why g c =
    why_for (λ w. HasSerialLeft c.args.self.now × IsWhyTight c.args.size c.args.align c.args.self.now.space w) (c.args.self.now.given ≡ last_serial) c.in-Some.why c.from.result c.from.ensures
    (subst (λ (k : Guard). HasSerialLeft k × IsWhyTight c.args.size c.args.align k.space c.in-Some.why) c.self.view_is
    (c.is_spent.ensures.left c.if-is_spent.false, c.in-Some.ensures.why))
