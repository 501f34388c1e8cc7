use Rattle.offset_script.proofs.{Common.sym, Common.subst, Common.arith, Common.Resets, Held.held_none, Simulation.none_kept, Simulation.reset_takes}
use Rattle.offset_script.proofs.keeper.KeeperOf.reset.Goals as goal

pub returns-clause-takes : goal.returns-clause-takes
returns-clause-takes g c = reset_takes _ _ _ _ (subst (Resets c.args.self.now.space) (sym c.loop-i.invariant.space) c.reset.ensures.step) c.loop-i.invariant.length
    (λ k l. c.loop-i.invariant.swept k (let same = c.args.self.now.handles.ok.0 in let len = c.loop-i.invariant.length in omega arith))

pub returns-clause-held : goal.returns-clause-held
returns-clause-held g c =
    held_none _ _ (none_kept c.loop-i.self.handles.items (λ k l. c.loop-i.invariant.swept k (let same = c.args.self.now.handles.ok.0 in let len = c.loop-i.invariant.length in omega arith)))
