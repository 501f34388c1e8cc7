use Rattle.offset_calls.proofs.EndServed.{retract_serves}
use Rattle.offset_calls.proofs.guarded_ending.retract.Goals as goal

pub returns : goal.returns
returns g c ts is = retract_serves c.args.less _ _ ts c.retract.result _ is c.retract.ensures.step c.retract.ensures.kept c.retract.ensures.serials c.resized.ensures
