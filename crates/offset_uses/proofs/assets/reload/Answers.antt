use Rattle.offset_uses.proofs.assets.reload.Goals as goal

pub returns-clause-step : goal.returns-clause-step
returns-clause-step g c =
    (c.unload.new.assets, c.unload.ensures.step, record { granted = c.allocate.ensures.can_grant; grants = c.allocate.ensures.request.grants; same = c.allocate.ensures.request.same })
