use Rattle.offset_allocator.proofs.Views.ViewUndo.{is_undone}
use Rattle.offset_allocator.proofs.laws.undo.Goals as goal

pub returns-in-Some-clause-undone : goal.returns-in-Some-clause-undone
returns-in-Some-clause-undone g c = is_undone c.args.n c.args.allocator.now c.formed.ensures

pub returns-in-Some-clause-same : goal.returns-in-Some-clause-same
returns-in-Some-clause-same g c = is_undone c.args.n c.args.allocator.now c.formed.ensures c.allocate.new.self c.free.new.self c.in-Some.allocation c.in-Some.ensures.step c.free.ensures.step
