use Rattle.offset_uses.proofs.daily.insert.Goals as goal

pub returns-in-None-clause-granted : goal.returns-in-None-clause-granted
returns-in-None-clause-granted g c one other = (λ e. absurd (cc), λ h. (c.in-None.ensures.granted other).1 h.1)

pub returns-in-None-clause-can_grant : goal.returns-in-None-clause-can_grant
returns-in-None-clause-can_grant g c = (λ e. absurd (cc), λ h. c.in-None.ensures.can_grant.1 h.1)

pub returns-in-Some-clause-granted : goal.returns-in-Some-clause-granted
returns-in-Some-clause-granted g c one other = (λ e. ((c.in_ok-first.ensures.granted one).0 e, (c.in-Some.ensures.granted other).0 e), λ h. (c.in-Some.ensures.granted other).1 h.1)

pub returns-in-Some-clause-can_grant : goal.returns-in-Some-clause-can_grant
returns-in-Some-clause-can_grant g c = (λ e. (c.in_ok-first.ensures.can_grant.0 e, c.in-Some.ensures.can_grant.0 e), λ h. c.in-Some.ensures.can_grant.1 h.1)
