use Rattle.std.proofs.Common.{ap}
use Rattle.offset_script.specs.Machine.{answer_view}
use Rattle.offset_pictures.proofs.living.life_of_answer.Goals as goal

pub of-last-requires : goal.of-last-requires
of-last-requires c = c.requires c.in-Grant.number c.in-Grant.offset (ap answer_view c.in-Grant.is)
