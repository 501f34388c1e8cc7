use Rattle.offset_script.proofs.{Common.subst, Held.held_pushed}
use Rattle.offset_script.specs.Steps.{MayBeKept}
use Rattle.offset_script.proofs.keeper.KeeperOf.keep.Goals as goal

pub returns-in_ok-push-in-Some-clause-held : goal.returns-in_ok-push-in-Some-clause-held
returns-in_ok-push-in-Some-clause-held g c =
    held_pushed c.args.self.now.handles.items c.in-Some.handle c.args.self.now.space _ c.in_ok-push-in-Some.ensures.items
    (subst (λ r. MayBeKept r c.args.self.now.space c.args.self.now.handles.items) c.in-Some.is c.requires.granted) c.requires.held
