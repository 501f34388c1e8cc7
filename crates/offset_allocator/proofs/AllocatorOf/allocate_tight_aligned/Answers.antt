use Rattle.offset_allocator.proofs.{Holding.can_hold, Holding.plain, Holding.grants_tight, Holding.aligned_tight}
use Rattle.offset_allocator.proofs.AllocatorOf.allocate_tight_aligned.Goals as goal

pub serve_tight-requires : goal.serve_tight-requires
serve_tight-requires g c = c.requires.alignment

pub returns-clause-can_hold : goal.returns-clause-can_hold
returns-clause-can_hold g c =
    can_hold c.args.size c.args.align c.args.self.now c.serve_tight.new.self c.serve_tight.ensures.formed c.requires.alignment c.serve_tight.result c.serve_tight.ensures.step

pub returns-clause-plain : goal.returns-clause-plain
returns-clause-plain g c =
    plain c.args.size c.args.align c.args.self.now c.serve_tight.new.self c.serve_tight.ensures.formed c.requires.alignment c.serve_tight.result c.serve_tight.ensures.step

pub returns-clause-grants : goal.returns-clause-grants
returns-clause-grants g c =
    grants_tight c.args.size c.args.align c.args.self.now c.serve_tight.new.self c.serve_tight.ensures.formed c.requires.alignment c.serve_tight.result c.serve_tight.ensures.step

pub returns-clause-aligned : goal.returns-clause-aligned
returns-clause-aligned g c =
    aligned_tight c.args.size c.args.align c.args.self.now c.serve_tight.new.self c.serve_tight.ensures.formed c.requires.alignment c.serve_tight.result c.serve_tight.ensures.step
