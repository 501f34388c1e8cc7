use Rattle.offset_allocator.proofs.{Common.◌∙◌, Common.refl, Common.sym, Linking.Nodes.past_idle, Reading.used_read}
use Rattle.offset_allocator.proofs.chain.is_live.Goals as goal

pub returns-else-has-clause-live : goal.returns-else-has-clause-live
returns-else-has-clause-live g c last spare space = sym (past_idle _ c.args.name (c.if-has.ensures.past refl)) ∙ used_read _ _ _ _ space
