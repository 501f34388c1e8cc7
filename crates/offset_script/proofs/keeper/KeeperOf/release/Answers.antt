use Rattle.offset_script.proofs.{Common.option_map, Common.refl, Common.sym, Common.ap, Common.◌∙◌, Common.Handle, Held.held_freed, Simulation.if_none, Simulation.if_some}
use Rattle.offset_script.proofs.keeper.KeeperOf.release.Goals as goal

pub free-requires : goal.free-requires
free-requires g c = record { live = c.requires.live _ _ (sym c.handle.ensures.name ∙ ap (option_map (λ (h : Handle). h.name)) c.in-Some.is) }

pub returns-in-None : goal.returns-in-None
returns-in-None g c = record {
  takes = if_none _ _ _ (sym c.handle.ensures.name ∙ ap (option_map (λ (h : Handle). h.name)) c.in-None.is) ((refl, refl), refl);
  held = c.requires;
}

pub returns-in-Some : goal.returns-in-Some
returns-in-Some g c = let named = sym c.handle.ensures.name ∙ ap (option_map (λ (h : Handle). h.name)) c.in-Some.is in record {
  takes = if_some _ _ _ _ named (c.free.ensures.step, refl, refl);
  held = held_freed c.args.self.now.space c.free.new.self c.args.self.now.handles.items c.args.number c.in-Some.handle.name named c.free.ensures.others c.requires;
}
