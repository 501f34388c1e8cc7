use Rattle.offset_allocator.proofs.Views.ViewUndo.{is_undone}
use Rattle.offset_uses.proofs.frame.Goals as goal

-- the units are granted and freed
pub returns-clause-same : goal.returns-clause-same
returns-clause-same g c = is_undone c.args.n c.args.space.now c.is_well_formed.ensures c.allocate.new.self c.free.new.self c.in_ok-scratch.scratch c.in_ok-scratch.ensures.step c.free.ensures.step
