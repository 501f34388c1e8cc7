use Rattle.std.proofs.Common.{sym, ap, ◌∙◌, is_some, option_copied}
use Rattle.offset_heaps.proofs.Numbers.{slot_there}
use Rattle.offset_heaps.proofs.slots.Slots.has.Goals as goal

pub returns-in-Some-clause-there : goal.returns-in-Some-clause-there
returns-in-Some-clause-there g c e = slot_there c.args.self.now c.args.number (ap is_some (sym c.at.ensures.heap ∙ ap option_copied c.in-Some.is))
