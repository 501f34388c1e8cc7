use Rattle.offset_script.proofs.{Common.option_map, Common.refl, Common.sym, Common.ap, Common.◌∙◌, Common.Handle, Simulation.if_none, Simulation.if_some}
use Rattle.offset_script.specs.Machine as machine
use Rattle.offset_script.proofs.keeper.KeeperOf.size.Goals as goal

pub returns-in-None : goal.returns-in-None
returns-in-None g c = ((refl, refl), if_none _ _ _ (sym c.handle.ensures.name ∙ ap (option_map (λ (h : Handle). h.name)) c.in-None.is) refl)

pub returns-in-Some : goal.returns-in-Some
returns-in-Some g c = ((refl, refl), if_some _ _ _ _ (sym c.handle.ensures.name ∙ ap (option_map (λ (h : Handle). h.name)) c.in-Some.is) (ap machine.Size c.allocation_size.ensures))
