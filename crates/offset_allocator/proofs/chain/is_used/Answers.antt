use Rattle.offset_allocator.proofs.{Common.◌∙◌, Reading.used_read}
use Rattle.offset_allocator.proofs.chain.is_used.Goals as goal

pub returns-clause-used : goal.returns-clause-used
returns-clause-used g c last spare space = c.used.ensures.cell ∙ used_read _ _ _ _ space
