use Rattle.offset_script.proofs.{Common.Bool, Common.refl, Common.sym, Common.ap, Common.if◌then◌else◌, Held.held_kept}
use Rattle.offset_script.specs.Machine as machine
use Rattle.offset_script.proofs.keeper.KeeperOf.extend.Goals as goal

pub returns-then-extend : goal.returns-then-extend
returns-then-extend g c = record {
  takes = (c.extend.result, c.extend.ensures.step, refl, ap (λ (b : Bool). if b then machine.Extended else machine.Refused) (sym c.if-extend.true));
  held = held_kept c.args.self.now.space c.extend.new.self c.args.self.now.handles.items c.extend.ensures.kept c.requires;
}

pub returns-else-extend : goal.returns-else-extend
returns-else-extend g c = record {
  takes = (c.extend.result, c.extend.ensures.step, refl, ap (λ (b : Bool). if b then machine.Extended else machine.Refused) (sym c.if-extend.false));
  held = held_kept c.args.self.now.space c.extend.new.self c.args.self.now.handles.items c.extend.ensures.kept c.requires;
}
