use Rattle.std.proofs.Common.{arith, refl}
use Rattle.offset_uses.proofs.charge.Goals as goal

pub returns-then-n-tenant-clause-can_grant : goal.returns-then-n-tenant-clause-can_grant
returns-then-n-tenant-clause-can_grant g c = (λ e. absurd (cc), λ h. absurd (omega (arith, h.0, c.if-n-tenant.true)))

pub returns-clause-can_grant : goal.returns-clause-can_grant
returns-clause-can_grant g c = (λ e. (omega (arith, c.if-n-tenant.false, c.requires.within), c.in_ok-allocation.ensures.can_grant.0 e), λ h. refl)
